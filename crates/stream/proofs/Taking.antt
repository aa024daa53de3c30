-- How a record is taken from the unread bytes and from what comes. Assumes nothing.
use Rattle.wire.proofs.Basics.{◌∙◌, sym, ◌≡◌, ap, refl, subst, ℕ, ◌≤◌, ◌+◌, ◌<◌, ◌-◌, suc, zero, ◌*◌, min, List, [], ◌++◌, append_assoc, true, false, length, drop, get_or, take, length-append}
use Rattle.wire.proofs.Basics.{length-drop, drop-drop, slice, take-take, drop-append-le, leb, le-leb, lt-leb, arith}
use lib.ListN.{get_or-append}
use lib.Seq.{length-slice, slice_empty}
use Rattle.wire.specs.Bytes.{be}
use Rattle.wire.proofs.Choices.{and-of, and-false}
use Rattle.stream.specs.declared.Kind.{Kind}
use Rattle.stream.specs.declared.Kind.TheVariants.{Bytes2, Bytes4, Numbers, Entry}
use Rattle.stream.specs.declared.Input.{Input}
use Rattle.std.proofs.Common.{Option, Some, None}
use Rattle.stream.specs.Records.{Next, Record, End, Cut, head_of, width_of, unit_of, body_length_lem, is_whole, unread, Roomy, holds, Took, Ends, Lacks, Gives}
use Rattle.stream.specs.InsideWindows.{Within, Ready, Headed, Fronted, Grown, Gone, Lacking, Dropped, after_skip_lem}
use Rattle.stream.proofs.Slices.{slice-rest, slice_slice, slice-within, slice-append}
use Rattle.stream.proofs.Passing.{grown-joined}

-- ---- bytes made ready

pub ready-fill : (b : List ℕ) (i : Input) (want : ℕ) (c : List ℕ) (e : ℕ) → i.at ≤ i.end → want < length b - i.at → Grown b i.end c e
    → Ready b i want c (record { at = i.at; end = e })
ready-fill b i want c e h k g =
    record {
      order = omega (arith, g.from);
      within = g.within;
      room = omega (arith, g.same_length);
      same_length = g.same_length;
      came = slice i.end e c;
      joined = grown-joined i.at h g;
    }

pub ready-front : (b : List ℕ) (i : Input) (want : ℕ) (m : List ℕ) (n : ℕ) (c : List ℕ) (e : ℕ) → want < length b → Fronted b i.at i.end m n → Grown m n c e
    → Ready b i want c (record { at = 0; end = e })
ready-front b i want m n c e h f g =
    record {
      order = omega arith;
      within = g.within;
      room = omega (arith, g.same_length, f.same_length);
      same_length = g.same_length ∙ f.same_length;
      came = slice n e c;
      joined = grown-joined 0 (omega arith) g ∙ ap (λ (x : List ℕ). x ++ slice n e c) f.front;
    }

-- ---- whole records

-- a number at the front stays when something follows
be-front : (k : ℕ) (x y : List ℕ) → k ≤ length x → be k (x ++ y) ≡ be k x
unfolding be
be-front zero x y h = refl
be-front (suc k) x y h =
    let p : be k (x ++ y) ≡ be k x = be-front k x y (omega arith) in
    let q : get_or (x ++ y) k 0 ≡ get_or x k 0 = get_or-append x y 0 k (omega arith) in
    λ i. p i * 256 + q i

pub body-front : (kind : Kind) (x y : List ℕ) → head_of kind ≤ length x → body_length_lem kind (x ++ y) ≡ body_length_lem kind x
unfolding body_length_lem
body-front kind x y h =
    let m : ℕ = head_of kind - width_of kind in
    let w : width_of kind ≤ head_of kind = narrow kind in
    ap (λ (l : List ℕ). unit_of kind * be (width_of kind) l) (drop-append-le m x y (omega arith))
    ∙ ap (λ (n : ℕ). unit_of kind * n) (be-front (width_of kind) (drop m x) y (omega (arith, length-drop m x)))
  where
    narrow : (k : Kind) → width_of k ≤ head_of k
    narrow Bytes2 = omega arith
    narrow Bytes4 = omega arith
    narrow Numbers = omega arith
    narrow Entry = omega arith

pub whole-true : (kind : Kind) (x : List ℕ) → head_of kind ≤ length x → head_of kind + body_length_lem kind x ≤ length x → is_whole kind x ≡ true
unfolding is_whole
whole-true kind x h k = and-of _ _ (le-leb (head_of kind) (length x) h) (le-leb (head_of kind + body_length_lem kind x) (length x) k)

whole-false : (kind : Kind) (x : List ℕ) → length x < head_of kind + body_length_lem kind x → is_whole kind x ≡ false
unfolding is_whole
whole-false kind x h = rw (lt-leb (head_of kind + body_length_lem kind x) (length x) h) (and-false (leb (head_of kind) (length x)))

-- a head has a byte or more, and few
pub some-head : (kind : Kind) → (0 < head_of kind) × (head_of kind ≤ 18)
some-head Bytes2 = (omega arith, omega arith)
some-head Bytes4 = (omega arith, omega arith)
some-head Numbers = (omega arith, omega arith)
some-head Entry = (omega arith, omega arith)

pub whole-none : (kind : Kind) → is_whole kind [] ≡ false
whole-none kind = whole-false kind [] (omega (arith, (some-head kind).0))

-- the buffer is too short, or there is no whole head
pub lacks-room : (kind : Kind) (b : List ℕ) (i : Input) → length b ≤ head_of kind + 1 → Lacks kind b i
lacks-room kind b i h = record { came = []; some = λ r. absurd (let z : ⊥ = omega arith in z); cut = λ r. absurd (let z : ⊥ = omega arith in z) }

pub lacks-head : (kind : Kind) (b : List ℕ) (i : Input) (came : List ℕ) → 0 < length (unread b i ++ came) → length (unread b i ++ came) < head_of kind → Lacks kind b i
lacks-head kind b i came z h = record { came = came; some = λ r. z; cut = λ r. whole-false kind (unread b i ++ came) (omega arith) }

-- ---- the body

module _ {kind : Kind} {b : List ℕ} {one : Input} {body : ℕ} (h : Headed kind b one body) (len : ℕ) (size : len ≡ min body (length b - (head_of kind + 1)))
    {c : List ℕ} {two : Input} (r : Ready b one (head_of kind + len) c two) where
  long : length (unread b one) ≡ one.end - one.at
  long = length-slice one.at one.end b h.within

  held : length (unread b one ++ r.came) ≡ two.end - two.at
  held = sym (ap length r.joined) ∙ length-slice two.at two.end c r.within

  body_is : (y : List ℕ) → body_length_lem kind (unread b one ++ y) ≡ body
  body_is y = body-front kind (unread b one) y (omega (arith, long, h.head)) ∙ sym h.is

  some : (y : List ℕ) → 0 < length (unread b one ++ y)
  some y = omega (arith, long, h.head, length-append (unread b one) y, (some-head kind).0)

  pub lacks-body : two.end - two.at < head_of kind + len → Lacks kind b one
  lacks-body s =
      record {
        came = r.came;
        some = λ _. some r.came;
        cut = λ _. whole-false kind (unread b one ++ r.came) (omega (arith, held, body_is r.came, size));
      }

  -- what is held after the body
  tail : slice (two.at + head_of kind + len) two.end c ≡ drop (head_of kind + len) (unread b one ++ r.came)
  tail =
      ap (λ (k : ℕ). slice k two.end c) (let e : two.at + head_of kind + len ≡ two.at + (head_of kind + len) = omega arith in e)
      ∙ slice-rest c two.at (head_of kind + len) two.end
      ∙ ap (drop (head_of kind + len)) r.joined

  module _ (enough : head_of kind + len ≤ two.end - two.at) where
    -- and what comes after it
    all_after : (y : List ℕ) → slice (two.at + head_of kind + len) two.end c ++ y ≡ drop (head_of kind + len) (unread b one ++ (r.came ++ y))
    all_after y =
        ap (λ (x : List ℕ). x ++ y) tail
        ∙ sym (drop-append-le (head_of kind + len) (unread b one ++ r.came) y (omega (arith, held)))
        ∙ ap (drop (head_of kind + len)) (append_assoc (unread b one) r.came y)

    long_after : (y : List ℕ) → length (slice (two.at + head_of kind + len) two.end c ++ y) + (head_of kind + len) ≡ length (unread b one ++ (r.came ++ y))
    long_after y =
        omega (
          arith,
          ap length (all_after y),
          length-drop (head_of kind + len) (unread b one ++ (r.came ++ y)),
          ap length (append_assoc (unread b one) r.came y),
          length-append (unread b one ++ r.came) y,
          held,
        )

    pub lacks_rest : Lacking c (two.at + head_of kind + len) two.end (body - len) → Lacks kind b one
    lacks_rest l =
        record {
          came = r.came ++ l.came;
          some = λ _. some (r.came ++ l.came);
          cut = λ _. whole-false kind (unread b one ++ (r.came ++ l.came)) (omega (arith, long_after l.came, body_is (r.came ++ l.came), l.fewer));
        }

    -- a part of the head and the body, wherever the rest was dropped
    part_of : {d : List ℕ} {left : Input} (g : Gone c (two.at + head_of kind + len) two.end (body - len) d left) (f t : ℕ) → t ≤ head_of kind + len
        → slice (two.at + f) (two.at + t) d ≡ slice f t (unread b one ++ (r.came ++ g.came))
    part_of {d} {left} g f t l =
        let place : ℕ = two.at + head_of kind + len in
        let n : two.at + t ≤ place = omega arith in
        ap (drop (two.at + f)) (sym (take-take (two.at + t) place d n) ∙ ap (take (two.at + t)) g.kept ∙ take-take (two.at + t) place c n)
        ∙ sym (slice_slice c two.at f t two.end (omega (arith, r.order)) r.within)
        ∙ ap (slice f t) r.joined
        ∙ sym (slice-append (unread b one ++ r.came) g.came f t (omega (arith, held)))
        ∙ ap (slice f t) (append_assoc (unread b one) r.came g.came)

    pub took : {d : List ℕ} {left : Input} → Gone c (two.at + head_of kind + len) two.end (body - len) d left → Took kind b one d (two.at + head_of kind) len left
    took {d} {left} g =
        let all : List ℕ = unread b one ++ (r.came ++ g.came) in
        let n : body_length_lem kind all ≡ body = body_is (r.came ++ g.came) in
        let low : len ≤ body = omega (arith, size) in
        record {
          came = r.came ++ g.came;
          room = h.room;
          whole = whole-true kind all (omega (arith, long_after g.came)) (omega (arith, long_after g.came, n, g.enough));
          size = size ∙ ap (λ (k : ℕ). min k (length b - (head_of kind + 1))) (sym n);
          headed = omega arith;
          head =
              ap (λ (k : ℕ). slice k (two.at + head_of kind) d) (let e : two.at + head_of kind - head_of kind ≡ two.at + 0 = omega arith in e)
              ∙ part_of g 0 (head_of kind) (omega arith);
          body =
              ap (λ (k : ℕ). slice (two.at + head_of kind) k d) (let e : two.at + head_of kind + len ≡ two.at + (head_of kind + len) = omega arith in e)
              ∙ part_of g (head_of kind) (head_of kind + len) (omega arith);
          within = omega (arith, g.same_length, r.room);
          rest =
              g.now-unread
              ∙ ap (drop (body - len)) (all_after g.came)
              ∙ drop-drop (body - len) (head_of kind + len) all
              ∙ ap (λ (k : ℕ). drop k all) (let e : head_of kind + len + (body - len) ≡ head_of kind + body_length_lem kind all = omega (arith, n) in e);
        }

-- the same, with the head's length by another name
module _ {kind : Kind} {b : List ℕ} {one : Input} {body : ℕ} (h : Headed kind b one body) (head len : ℕ) (e : head_of kind ≡ head) (c : List ℕ) (two : Input) where
  pub body-lacks : len ≡ min body (length b - (head + 1)) → Ready b one (head + len) c two → two.end - two.at < head + len → Lacks kind b one
  body-lacks =
      subst (λ (k : ℕ). len ≡ min body (length b - (k + 1)) → Ready b one (k + len) c two → two.end - two.at < k + len → Lacks kind b one) e
      (λ size r s. lacks-body h len size r s)

  pub body_dropped : (skip : Option Input) (d : List ℕ) → len ≡ min body (length b - (head + 1)) → Ready b one (head + len) c two → head + len ≤ two.end - two.at
      → Dropped c (two.at + head + len) two.end (body - len) d skip → Gives kind b one d (after_skip_lem (two.at + head) len skip)
  body_dropped skip d =
      subst
      (λ (k : ℕ). len ≡ min body (length b - (k + 1)) → Ready b one (k + len) c two → k + len ≤ two.end - two.at
      → Dropped c (two.at + k + len) two.end (body - len) d skip → Gives kind b one d (after_skip_lem (two.at + k) len skip)) e
      (by_skip skip)
    where
      by_skip : (s : Option Input) → len ≡ min body (length b - (head_of kind + 1)) → Ready b one (head_of kind + len) c two → head_of kind + len ≤ two.end - two.at
          → Dropped c (two.at + head_of kind + len) two.end (body - len) d s → Gives kind b one d (after_skip_lem (two.at + head_of kind) len s)
      by_skip (Some left) size r k g = took h len size r k g
      by_skip None size r k l = lacks_rest h len size r k l

-- ---- from the input as it was

-- the input within the buffer
within-unread : (b : List ℕ) (i r : Input) → Within i (length b) r → unread b r ≡ unread b i
within-unread b i r w = slice-within b i.at i.end r.at r.end w.end w.at

module _ (kind : Kind) {b c : List ℕ} {i inside one : Input} {want : ℕ} (w : Within i (length b) inside) (ready : Ready b inside want c one) where
  joined : unread c one ≡ unread b i ++ ready.came
  joined = ready.joined ∙ ap (λ (x : List ℕ). x ++ ready.came) (within-unread b i inside w)

  all : (y : List ℕ) → unread c one ++ y ≡ unread b i ++ (ready.came ++ y)
  all y = ap (λ (x : List ℕ). x ++ y) joined ∙ append_assoc (unread b i) ready.came y

  -- a buffer has the same room
  room-before : Roomy kind c → Roomy kind b
  room-before = subst (λ (n : ℕ). head_of kind + 1 < n) ready.same_length

  room_after : Roomy kind b → Roomy kind c
  room_after = subst (λ (n : ℕ). head_of kind + 1 < n) (sym ready.same_length)

  -- nothing is unread, or less than a head
  pub ends : Roomy kind b → one.at ≡ one.end → Ends kind b i
  ends r e =
      record {
        came = ready.came;
        room = r;
        none = sym joined ∙ ap (λ (k : ℕ). slice k one.end c) e ∙ slice_empty one.end c;
      }

  held-before : length (unread b i ++ ready.came) ≡ one.end - one.at
  held-before = ap length (sym joined) ∙ length-slice one.at one.end c ready.within

  pub lacks-a-head : one.at < one.end → one.end - one.at < head_of kind → Lacks kind b i
  lacks-a-head z h = lacks-head kind b i ready.came (omega (arith, held-before)) (omega (arith, held-before))

  pub gives-before : (d : List ℕ) (r : Next) → Gives kind c one d r → Gives kind b i d r
  gives-before d (Record at len left) t =
      let e = all t.came in
      record {
        came = ready.came ++ t.came;
        room = room-before t.room;
        whole = subst (λ (x : List ℕ). is_whole kind x ≡ true) e t.whole;
        size = t.size ∙ (λ j. min (body_length_lem kind (e j)) (holds kind (ready.same_length j)));
        headed = t.headed;
        head = t.head ∙ ap (take (head_of kind)) e;
        body = t.body ∙ ap (slice (head_of kind) (head_of kind + len)) e;
        within = t.within;
        rest = t.rest ∙ ap (λ (x : List ℕ). drop (head_of kind + body_length_lem kind x) x) e;
      }
  gives-before d End t = record { came = ready.came ++ t.came; room = room-before t.room; none = sym (all t.came) ∙ t.none }
  gives-before d Cut t =
      record {
        came = ready.came ++ t.came;
        some = λ r. subst (λ (x : List ℕ). 0 < length x) (all t.came) (t.some (room_after r));
        cut = λ r. subst (λ (x : List ℕ). is_whole kind x ≡ false) (all t.came) (t.cut (room_after r));
      }
