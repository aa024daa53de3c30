-- Bytes that come after a place: what stays, what is unread then, and what is dropped. Assumes nothing.
use Rattle.wire.proofs.Basics.{◌∙◌, sym, ◌≡◌, ap, refl, subst, ℕ, ◌≤◌, ◌+◌, ◌<◌, ◌-◌, List, [], ◌++◌, append_assoc, append-nil, length, drop, take, length-append, slice, take-take, arith}
use lib.Seq.{length-slice, drop-append-add}
use Rattle.stream.specs.InsideWindows.{Grown, Gone, Lacking}
use Rattle.stream.proofs.Slices.{slice-split, slice-rest}

-- nothing came, and more came
pub grown-none : (b : List ℕ) (at : ℕ) → at ≤ length b → Grown b at b at
grown-none b at h = record { from = omega arith; within = h; same_length = refl; kept = refl }

pub grown-more : {b c d : List ℕ} {at e r : ℕ} → Grown b at c e → Grown c e d r → Grown b at d r
grown-more {b} {c} {d} {at} {e} {r} g h =
    let f : at ≤ e = g.from in
    record {
      from = omega (arith, g.from, h.from);
      within = h.within;
      same_length = h.same_length ∙ g.same_length;
      kept = sym (take-take at e d f) ∙ ap (take at) h.kept ∙ take-take at e c f ∙ g.kept;
    }

-- the end by another name
pub grown-is : {b c : List ℕ} {at e r : ℕ} → Grown b at c e → e ≡ r → Grown b at c r
grown-is {b} {c} {at} {e} {r} g q = subst (λ (n : ℕ). Grown b at c n) q g

-- the unread bytes are those that were and what came
pub grown-joined : {b c : List ℕ} {e r : ℕ} (at : ℕ) → at ≤ e → Grown b e c r → slice at r c ≡ slice at e b ++ slice e r c
grown-joined {b} {c} {e} {r} at h g =
    slice-split c at e r h g.from (omega (arith, g.from, g.within))
    ∙ ap (λ (x : List ℕ). drop at x ++ slice e r c) g.kept

-- all that was held after a place, and what came since, is dropped, and more is to be
pub record Passing (before : List ℕ) (place end rest : ℕ) (b : List ℕ) (left : ℕ) : Type 0 where
  pub same_length : length b ≡ length before
  pub kept : take place b ≡ take place before
  pub came : List ℕ
  pub count : length (slice place end before ++ came) + left ≡ rest
  pub more : 0 < left

pub passing-held : (b : List ℕ) (place end rest : ℕ) → place ≤ end → end ≤ length b → end - place < rest → Passing b place end rest b (rest - (end - place))
passing-held b place end rest h k l =
    record {
      same_length = refl;
      kept = refl;
      came = [];
      count = let n : length (slice place end b ++ []) ≡ end - place = ap length (append-nil (slice place end b)) ∙ length-slice place end b k in omega arith;
      more = omega arith;
    }

module _ {before : List ℕ} {place end rest left : ℕ} {b c : List ℕ} {e : ℕ} (p : Passing before place end rest b left) (g : Grown b place c e) where
  n : length (slice place e c) ≡ e - place
  n = length-slice place e c g.within

  two : (slice place end before ++ p.came) ++ slice place e c ≡ slice place end before ++ (p.came ++ slice place e c)
  two = append_assoc (slice place end before) p.came (slice place e c)

  long : length (slice place end before ++ (p.came ++ slice place e c)) ≡ length (slice place end before ++ p.came) + (e - place)
  long = sym (ap length two) ∙ length-append (slice place end before ++ p.came) (slice place e c) ∙ ap (λ (k : ℕ). length (slice place end before ++ p.came) + k) n

  pub passing-more : e - place < left → Passing before place end rest c (left - (e - place))
  passing-more h =
      record {
        same_length = g.same_length ∙ p.same_length;
        kept = g.kept ∙ p.kept;
        came = p.came ++ slice place e c;
        count = omega (arith, long, p.count);
        more = omega arith;
      }

  pub passing-done : left ≤ e - place → Gone before place end rest c (record { at = place + left; end = e })
  passing-done h =
      record {
        same_length = g.same_length ∙ p.same_length;
        kept = g.kept ∙ p.kept;
        came = p.came ++ slice place e c;
        enough = omega (arith, long, p.count);
        now-unread =
            slice-rest c place left e
            ∙ sym (drop-append-add (slice place end before ++ p.came) (slice place e c) left)
            ∙ ap (λ (k : ℕ). drop k ((slice place end before ++ p.came) ++ slice place e c)) p.count
            ∙ ap (drop rest) two;
      }

pub passing-lacks : {before : List ℕ} {place end rest left : ℕ} {b : List ℕ} → Passing before place end rest b left → Lacking before place end rest
passing-lacks p = record { came = p.came; fewer = omega (arith, p.count, p.more) }

-- all that is to be dropped is held
pub gone_held : (b : List ℕ) (place end rest : ℕ) → end ≤ length b → rest ≤ end - place → Gone b place end rest b (record { at = place + rest; end = end })
gone_held b place end rest k h =
    let s = append-nil (slice place end b) in
    record {
      same_length = refl;
      kept = refl;
      came = [];
      enough = omega (arith, ap length s, length-slice place end b k);
      now-unread = slice-rest b place rest end ∙ ap (drop rest) (sym s);
    }
