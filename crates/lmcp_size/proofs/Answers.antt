-- From the walk of a list to how long its message is. Assumes nothing.
use Rattle.wire.proofs.Basics.{◌∙◌, sym, ◌≡◌, ap, refl, ℕ, ◌≤◌, ◌+◌, ◌<◌, ◌-◌, suc, List, [], ◌∷◌, true, false, Bool, length, drop, get_or, take, length-append, take-length, ltb, ℤ, pos, le-ltb, lt-ltb}
use Rattle.wire.proofs.Basics.{arith}
use lib.Signed.{mag}
use Rattle.wire.specs.Choice.{pick}
use Rattle.wire.specs.Bytes.{bytes}
use Rattle.wire.proofs.Numbers.{length-bytes}
use Rattle.lmcp.specs.Made.{Made, Bytes, Refused}
use Rattle.lmcp.specs.Limits.{max_message}
use Rattle.lmcp.specs.Run.{got, refused, whole}
use Rattle.lmcp.specs.Table.{pitsurv}
use Rattle.lmcp.specs.Write.{Write}
use Rattle.lmcp.specs.InsideEnds.{begun, Sofar, Few15}
use Rattle.lmcp.specs.Message.{checksum_of, head_on, message_on, framed, write_message_lem}
use Rattle.lmcp.specs.Lists.{is_version_lem, write_list}
use Rattle.lmcp.proofs.WalkPlaces.{run-left, run-done, empty}
use Rattle.lmcp_size.specs.Size.{sized, SizeOf}
use Rattle.lmcp_size.specs.InsideSteps.{write_root}

-- a message has 12 bytes and its root's
pub message-length : (calculate : Bool) (bs : List ℕ) → length (message_on calculate bs) ≡ 12 + length bs
message-length calculate bs =
    let s = bytes 4 (pick calculate (checksum_of (head_on bs)) 0) in
    let h : length (head_on bs) ≡ 8 + length bs = simp (length-append, length-bytes) (omega arith) in
    length-append (head_on bs) s ∙ omega (arith, h, length-bytes 4 (pick calculate (checksum_of (head_on bs)) 0))

module _ (v : ℕ) (l : List ℤ) where
  abbrev Answer : Made → Type 0
  Answer = SizeOf (λ calculate. write_message_lem (pitsurv v) calculate l)

  pub answer-stopped : (k : ℕ) → write_root v l ≡ refused k → Answer (Refused k)
  unfolding write_message_lem framed whole
  answer-stopped k e calculate = sym (ap (λ (X : Write). sized (framed calculate (whole X))) e)

  module _ (at e : ℕ) (h : Sofar Few15 (begun l [] 8) (write_root v l) (got []) at e []) where
    pub answer-left : (at ≡ length l → ⊥) → Answer (Refused 28)
    unfolding write_message_lem framed
    answer-left d calculate = sym (ap (λ (X : Write). sized (framed calculate X)) (run-left h d))

    module _ (d : at ≡ length l) where
      framed_is : (calculate : Bool) → sized (write_message_lem (pitsurv v) calculate l) ≡ sized (pick (ltb max_message (12 + length h.ys)) (refused 21) (got (message_on calculate h.ys) []))
      unfolding write_message_lem framed
      framed_is calculate = ap (λ (X : Write). sized (framed calculate X)) (run-done h d)

      pub answer-long : max_message < e + 4 → Answer (Refused 21)
      answer-long k calculate =
          sym (framed_is calculate ∙ ap (λ (b : Bool). sized (pick b (refused 21) (got (message_on calculate h.ys) []))) (lt-ltb max_message (12 + length h.ys) (omega (arith, h.place))))

      pub answer-good : e + 4 ≤ max_message → Answer (Bytes (e + 4))
      answer-good k calculate =
          let n : 12 + length h.ys ≡ e + 4 = omega (arith, h.place) in
          sym
          (framed_is calculate ∙ ap (λ (b : Bool). sized (pick b (refused 21) (got (message_on calculate h.ys) []))) (le-ltb max_message (12 + length h.ys) (omega (arith, h.place)))
          ∙ ap Bytes (message-length calculate h.ys ∙ n))

-- ---- a list, by its version

pub cons_of : (l : List ℤ) → (length l ≡ 0 → ⊥) → l ≡ get_or l 0 (pos 0) ∷ take (length l - 1) (drop 1 l)
cons_of [] h = absurd (h refl)
cons_of (x ∷ t) h = let n : suc (length t) - 1 ≡ length t = omega arith in ap (λ (m : List ℤ). x ∷ m) (sym (ap (λ (k : ℕ). take k t) n ∙ take-length t))

module _ (l : List ℤ) where
  pub list-empty : length l ≡ 0 → SizeOf (λ calculate. write_list calculate l) (Refused 25)
  unfolding write_list
  list-empty e calculate = sym (ap (λ (m : List ℤ). sized (write_list calculate m)) (empty l e))

  module _ (some : length l ≡ 0 → ⊥) where
    pub list-other : is_version_lem (get_or l 0 (pos 0)) ≡ false → SizeOf (λ calculate. write_list calculate l) (Refused 29)
    unfolding write_list
    list-other f calculate = let q : write_list calculate l ≡ refused 29 = ap (write_list calculate) (cons_of l some) ∙ rw f refl in sym (ap sized q)

    -- what is written of a list is written of its rest, by its version
    pub list-version : is_version_lem (get_or l 0 (pos 0)) ≡ true → (v : ℕ) → v ≡ mag (get_or l 0 (pos 0)) → (calculate : Bool) → write_list calculate l ≡ write_message_lem (pitsurv v) calculate (take (length l - 1) (drop 1 l))
    unfolding write_list
    list-version f v e calculate =
        let rest = take (length l - 1) (drop 1 l) in
        let q : write_list calculate l ≡ write_message_lem (pitsurv (mag (get_or l 0 (pos 0)))) calculate rest = ap (write_list calculate) (cons_of l some) ∙ rw f refl in
        q ∙ ap (λ (n : ℕ). write_message_lem (pitsurv n) calculate rest) (sym e)
