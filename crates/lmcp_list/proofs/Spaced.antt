-- Laws of numbers after spaces. Assumes nothing.
use Rattle.wire.proofs.Basics.{◌∙◌, sym, ◌≡◌, ap, refl, ℕ, ◌+◌, ◌<◌, min, List, [], ◌∷◌, ◌++◌, append_assoc, append-nil, length, get_or, take, take-suc, ℤ, pos, add-one}
use Rattle.text.specs.Text.{signed_decimal}
use Rattle.lmcp_list.specs.Lines.{spaced}
use Rattle.wire.proofs.Parts.{take-least}

spaced-append : (a b : List ℤ) → spaced (a ++ b) ≡ spaced a ++ spaced b
spaced-append [] b = refl
spaced-append (z ∷ l) b =
    ap (λ (t : List ℕ). (32 ∷ signed_decimal z) ++ t) (spaced-append l b) ∙ sym (append_assoc (32 ∷ signed_decimal z) (spaced l) (spaced b))

-- one number more
pub spaced-turn : (s : List ℤ) (i : ℕ) → i < length s → spaced (take i s) ++ 32 ∷ [] ++ signed_decimal (get_or s i (pos 0)) ≡ spaced (take (i + 1) s)
spaced-turn s i h =
    append_assoc (spaced (take i s)) (32 ∷ []) (signed_decimal (get_or s i (pos 0)))
    ∙ ap (λ (t : List ℕ). spaced (take i s) ++ t) (sym (append-nil (32 ∷ signed_decimal (get_or s i (pos 0)))))
    ∙ sym (spaced-append (take i s) (get_or s i (pos 0) ∷ []))
    ∙ ap spaced (let e : take i s ++ get_or s i (pos 0) ∷ [] ≡ take (i + 1) s = rw (add-one i) (sym (take-suc s i (pos 0) h)) in e)

-- all that there are
pub spaced-least : (s : List ℤ) (n k : ℕ) → k ≡ min n (length s) → spaced (take k s) ≡ spaced (take n s)
spaced-least s n k e = ap spaced (take-least s n k e)
