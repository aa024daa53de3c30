-- From how long the message is, and the walk that writes, to the writer's answer. Assumes nothing.
use Rattle.wire.proofs.Basics.{◌∙◌, sym, ◌≡◌, ap, refl, ℕ, ◌≤◌, ◌+◌, ◌<◌, ◌-◌, List, [], ◌∷◌, ◌++◌, append_assoc, true, false, Bool, length, drop, get_or, take, length-append, sets, ltb, ℤ, pos}
use Rattle.wire.proofs.Basics.{ltb-false, le-leb, lt-leb, arith}
use lib.Signed.{mag}
use Rattle.wire.specs.Choice.{pick}
use Rattle.wire.specs.Bytes.{bytes}
use Rattle.wire.specs.Overlay.{overlay}
use Rattle.wire.proofs.Numbers.{length-bytes}
use Rattle.wire.proofs.Overlays.{overlay-sets, overlay-next, overlay-at}
use Rattle.lmcp.specs.Made.{Made, Bytes as Wrote, Refused}
use Rattle.lmcp.specs.Limits.{max_message, magic, deepest}
use Rattle.lmcp.specs.Run.{got, refused, whole}
use Rattle.lmcp.specs.Table.{pitsurv}
use Rattle.lmcp.specs.Walk.{is_null, root}
use Rattle.lmcp.specs.Write.{Write, write_head}
use Rattle.lmcp.specs.Message.{checksum_of, head_on, message_on, framed, write_message_lem, made, written, WrittenTo}
use Rattle.lmcp.specs.Lists.{is_version_lem, write_list}
use Rattle.lmcp.proofs.WalkPlaces.{run_is}
use Rattle.lmcp_size.specs.Size.{sized}
use Rattle.lmcp_size.specs.InsideSteps.{write_object, write_root}
use Rattle.lmcp_size.proofs.Answers.{message-length, list-version}
use Rattle.lmcp.specs.InsideAhead.{Ahead, Lays}
use Rattle.lmcp_writer.specs.InsidePuts.{Laid}
use Rattle.lmcp_writer.proofs.Puts.{no}

head-length : (bs : List ℕ) (e : ℕ) → e ≡ 8 + length bs → length (head_on bs) ≡ e
head-length bs e h = simp (length-append, length-bytes) (omega arith)

-- ---- the head, the root and the checksum, one after the other

module _ (v : ℕ) (l : List ℤ) (calculate : Bool) (e : ℕ) (out : List ℕ) (room : e ≤ length out) (o1 o2 o3 o4 : List ℕ) (u : ℕ) (is : u ≡ e - 8) (p q : ℕ)
    (w1 : o1 ≡ overlay out 0 magic) (w2 : o2 ≡ overlay o1 4 (bytes 4 u)) (w3 : Lays l o2 8 (write_object v 16 0 l) p q o3)
    (w4 : o4 ≡ overlay o3 e (bytes 4 (pick calculate (checksum_of (take e o3)) 0))) where
  module _ (bs : List ℕ) (rest : List ℤ) (got-bs : write_object v 16 0 l ≡ got bs rest) (ends_at : e ≡ 8 + length bs) where
    rooted : o3 ≡ sets o2 8 bs
    rooted =
        let x : got w3.ys (drop p l) ≡ got bs rest = sym (run_is w3) ∙ got-bs in
        let a : w3.ys ≡ bs = cc in
        w3.laid ∙ ap (sets o2 8) a

    headed : o3 ≡ overlay out 0 (head_on bs)
    headed =
        let x : u ≡ length bs = omega arith in
        let a : o2 ≡ overlay out 0 (magic ++ bytes 4 (length bs)) = overlay-next out magic (bytes 4 (length bs)) o1 o2 4 w1 refl (w2 ∙ ap (λ (n : ℕ). overlay o1 4 (bytes 4 n)) x) in
        let s8 : 8 ≡ length (magic ++ bytes 4 (length bs)) = omega (arith, length-bytes 4 (length bs)) in
        overlay-next out (magic ++ bytes 4 (length bs)) bs o2 o3 8 a s8 (rooted ∙ sym (overlay-sets o2 8 bs))
        ∙ ap (overlay out 0) (append_assoc magic (bytes 4 (length bs)) bs)

    front : take e o3 ≡ head_on bs
    front =
        let j : 0 + length (head_on bs) ≤ length out = omega (arith, head-length bs e ends_at) in
        ap (take e) headed ∙ ap (λ (n : ℕ). take n (overlay out 0 (head_on bs))) (sym (head-length bs e ends_at)) ∙ overlay-at out 0 (head_on bs) j

    pub all_laid : o4 ≡ overlay out 0 (message_on calculate bs)
    all_laid =
        overlay-next out (head_on bs) (bytes 4 (pick calculate (checksum_of (head_on bs)) 0)) o3 o4 e headed (sym (head-length bs e ends_at))
        (w4 ∙ ap (λ (x : List ℕ). overlay o3 e (bytes 4 (pick calculate (checksum_of x) 0))) front)

-- ---- the answer, by how long the message is

unlike : {A : Type 0} {n m : ℕ} → ◌≡◌ {A = Made} (Wrote n) (Refused m) → A
unlike e = absurd (let z : ◌≡◌ {A = ℕ} 0 1 = cc in omega arith)

pub answer-refused : (X : Write) (out : List ℕ) (n : ℕ) → Refused n ≡ sized X → WrittenTo X out (Refused n) out
unfolding made written
answer-refused (got m r) out n e = unlike (sym e)
answer-refused (refused k) out n e = record { gave = e; left = refl }

pub answer-short : (X : Write) (out : List ℕ) (n : ℕ) → Wrote n ≡ sized X → length out < n → WrittenTo X out (Refused 13) out
unfolding made written
answer-short (got m r) out n e h =
    let a : n ≡ length m = cc in
    let i : length out < length m = omega arith in
    record { gave = simp (lt-leb (length m) (length out) i); left = simp (lt-leb (length m) (length out) i) }
answer-short (refused k) out n e h = unlike e

answer-good : (X : Write) (out after : List ℕ) (n : ℕ) → Wrote n ≡ sized X → n ≤ length out → ((m : List ℕ) (r : List ℤ) → X ≡ got m r → after ≡ overlay out 0 m) → WrittenTo X out (Wrote n) after
unfolding made written
answer-good (got m r) out after n e h f =
    let a : n ≡ length m = cc in
    let i : length m ≤ length out = omega arith in
    record { gave = simp (le-leb (length m) (length out) i) (ap Wrote a); left = simp (le-leb (length m) (length out) i) (f m r refl) }
answer-good (refused k) out after n e h f = unlike e

-- ---- a list of which nothing is wrong

-- a list, of which a message is written, begins with its version
pub some-list : (calculate : Bool) (l : List ℤ) (n : ℕ) → Wrote n ≡ sized (write_list calculate l) → (length l ≡ 0 → ⊥) × (is_version_lem (get_or l 0 (pos 0)) ≡ true)
unfolding write_list
some-list calculate [] n e = unlike e
some-list calculate (z ∷ l) n e = (λ q. (let x : ⊥ = omega (arith, q) in x), by (is_version_lem z) refl e)
  where
    by : (b : Bool) → is_version_lem z ≡ b → Wrote n ≡ sized (pick b (write_message_lem (pitsurv (mag z)) calculate l) (refused 29)) → is_version_lem z ≡ true
    by true f q = f
    by false f q = unlike q

whole-got : (X : Write) (zs : List ℕ) (r : List ℤ) → whole X ≡ got zs r → X ≡ got zs []
unfolding whole
whole-got (got ys []) zs r e = let a : ys ≡ zs = cc in ap (λ (l : List ℕ). got l []) a
whole-got (got ys (x ∷ q)) zs r e = no e
whole-got (refused n) zs r e = no e

root-got : (v : ℕ) (l : List ℤ) (zs : List ℕ) (r : List ℤ) → write_root v l ≡ got zs r → write_object v deepest 0 l ≡ got zs r
unfolding root
root-got v l zs r e = by (is_null (write_head (pitsurv v) deepest 0 l)) e
  where
    by : (b : Bool) → pick b (refused 23) (write_object v deepest 0 l) ≡ got zs r → write_object v deepest 0 l ≡ got zs r
    by true q = no q
    by false q = q

-- the root's bytes, of a message that is written
pub record Rooted (v : ℕ) (l : List ℤ) (calculate : Bool) (n : ℕ) : Type 0 where
  pub bs : List ℕ
  pub is : write_object v 16 0 l ≡ got bs []
  pub all : write_message_lem (pitsurv v) calculate l ≡ got (message_on calculate bs) []
  pub long : n ≡ 12 + length bs
  pub most : n ≤ max_message

rooted-by : (v : ℕ) (l : List ℤ) (calculate : Bool) (n : ℕ) (X : Write) → whole (write_root v l) ≡ X → write_message_lem (pitsurv v) calculate l ≡ framed calculate X → Wrote n ≡ sized (framed calculate X) → Rooted v l calculate n
unfolding framed whole
rooted-by v l calculate n (got bs r) w m e = by (ltb max_message (12 + length bs)) refl e
  where
    none : r ≡ []
    none =
        let x = whole-got (write_root v l) bs r w in
        let y : whole (write_root v l) ≡ got bs [] = ap whole x in
        let z : got bs r ≡ got bs [] = sym w ∙ y in
        cc

    by : (b : Bool) → ltb max_message (12 + length bs) ≡ b → Wrote n ≡ sized (pick b (refused 21) (got (message_on calculate bs) r)) → Rooted v l calculate n
    by true f q = unlike q
    by false f q =
        let a : n ≡ length (message_on calculate bs) = cc in
        record {
          bs = bs;
          is = root-got v l bs [] (whole-got (write_root v l) bs r w);
          all = m ∙ ap (λ (b : Bool). pick b (refused 21) (got (message_on calculate bs) r)) f ∙ ap (got (message_on calculate bs)) none;
          long = a ∙ message-length calculate bs;
          most = let m = ltb-false max_message (12 + length bs) f in omega (arith, m, a, message-length calculate bs);
        }
rooted-by v l calculate n (refused k) w m e = unlike e

pub rooted-of : (v : ℕ) (l : List ℤ) (calculate : Bool) (n : ℕ) → Wrote n ≡ sized (write_message_lem (pitsurv v) calculate l) → Rooted v l calculate n
unfolding write_message_lem
rooted-of v l calculate n e = rooted-by v l calculate n (whole (write_root v l)) refl refl e

-- the whole list, as the code takes it: the rest behind its version
module _ (calculate : Bool) (l : List ℤ) (n : ℕ) (e : Wrote n ≡ sized (write_list calculate l)) (v : ℕ) (is : v ≡ mag (get_or l 0 (pos 0))) where
  abbrev rest : List ℤ
  rest = take (length l - 1) (drop 1 l)

  same : write_list calculate l ≡ write_message_lem (pitsurv v) calculate rest
  same = let s = some-list calculate l n e in list-version l s.0 s.1 v is calculate

  pub root-of : Rooted v rest calculate n
  root-of = rooted-of v rest calculate n (e ∙ ap sized same)

  pub root-ahead : Ahead (write_object v 16 0 rest) 8 (n - 4)
  root-ahead = record { ys = root-of.bs; rest = []; is = root-of.is; fits = omega (arith, root-of.long); small = omega (arith, root-of.most) }

  pub list-good : (out after : List ℕ) → n ≤ length out → Laid v rest calculate (n - 4) out after → WrittenTo (write_list calculate l) out (Wrote n) after
  list-good out after h laid =
      let R = root-of in
      let k : n - 4 ≡ 8 + length R.bs = omega (arith, R.long) in
      answer-good (write_list calculate l) out after n e h
      (λ m r q.
      let x : got m r ≡ got (message_on calculate R.bs) [] = sym q ∙ same ∙ R.all in
      let a : m ≡ message_on calculate R.bs = cc in
      laid R.bs [] R.is k ∙ ap (overlay out 0) (sym a))
