-- A reader with another limit for payloads reads the same, where the payload is within both.
use Rattle.wire.proofs.Basics.{sym, ◌≡◌, ap, refl, subst, ℕ, ◌≤◌, ◌+◌, List, true, false, Bool, ◌||◌, length, drop, eqb, ltb, leb, le-ltb, arith}
use Rattle.wire.specs.Choice.{pick}
use Rattle.wire.proofs.Choices.{never, pick_all}
use Rattle.datagram.specs.Limits.{max_datagram}
use Rattle.datagram.specs.Name.{name_length_lem}
use Rattle.datagram.specs.Read.{magic_in, small_magic, fragment_magic, size_in, number_in, count_in, place, part_of, good_form, fragment_header, formed, zero_to, read_small_lem, read_fragment_lem, read_datagram_lem}
use Rattle.datagram.specs.Said.{Fragment, Said, refused, small, fragment, fragment_in, says, said}
use Rattle.std.proofs.Common.{Option as Maybe, Some, None}
use Rattle.datagram.specs.declared.Place.{Place}
use Rattle.datagram.specs.declared.Header.{Header}
use Rattle.datagram.specs.Read.{Read}
use Rattle.datagram.specs.Read.{Good, Refused}

module _ (d : List ℕ) where
  -- a header that is read as a fragment's has the size that the datagram names
  abbrev OfFragment : Read → Type 0
  OfFragment r = (h : Header) → r ≡ Good h → (h.small ≡ false) × (h.size ≡ size_in d)

  none-good : (n : ℕ) → OfFragment (Refused n)
  none-good n h q = absurd (let z : ◌≡◌ {A = ℕ} 0 1 = cc in let y : ⊥ = omega arith in y)

  formed-size : (name : Place) (at : ℕ) → OfFragment (formed d name at)
  unfolding formed
  formed-size name at = pick_all OfFragment (good_form (fragment_header d name at))
      (λ e h q.
      let z : fragment_header d name at ≡ h = cc in
      (sym (ap (λ (x : Header). x.small) z), sym (ap (λ (x : Header). x.size) z)))
      (λ e. none-good 7)

  zero-size : (r : Maybe ℕ) → OfFragment (zero_to d r)
  zero-size None = none-good 4
  zero-size (Some c) = formed-size (place 20 c) (21 + c)

  -- what the reader says of a fragment past refusal 6
  abbrev body : Read
  body = pick (eqb (number_in d) 0) (zero_to d (name_length_lem (drop 20 d))) (formed d (place 20 0) 20)

  body-size : OfFragment body
  body-size = pick_all OfFragment (eqb (number_in d) 0) (λ e. zero-size (name_length_lem (drop 20 d))) (λ e. formed-size (place 20 0) 20)

  -- the size is within a limit, if that is a fragment of such a size, and it is never a small message
  abbrev Fits : ℕ → Said → Type 0
  Fits C (refused n) = ⊥
  Fits C (small q name payload) = Unit {0}
  Fits C (fragment f) = f.size ≤ C

  said-size : (C : ℕ) (r : Said) → Fits C r → (b : Read) → OfFragment b → says d b ≡ r → size_in d ≤ C
  said-size C r w (Refused n) o e = absurd (subst (Fits C) (sym e) w)
  said-size C r w (Good h) o e =
      let s = o h refl in
      by h.small s.0 e
    where
      by : (b : Bool) → b ≡ false → pick b (small h.sequence (part_of d h.name) (part_of d h.payload)) (fragment (fragment_in d h)) ≡ r → size_in d ≤ C
      by true q e' = never refl q
      by false q e' = subst (λ (n : ℕ). n ≤ C) (o h refl).1 (subst (Fits C) (sym e') w)

  -- the reader around its fragments
  abbrev frame : Bool → Bool → Bool → Bool → Bool → Read → Read
  frame a b c e g x = pick a (Refused 3) (pick b (Refused 1) (pick c (read_small_lem d) (pick e (pick g (Refused 1) x) (Refused 2))))

  framed : (x y : Read) (r : Said) → (says d x ≡ r → says d y ≡ r) → (a b c e g : Bool) → says d (frame a b c e g x) ≡ r → says d (frame a b c e g y) ≡ r
  framed x y r k true b c e g q = q
  framed x y r k false true c e g q = q
  framed x y r k false false true e g q = q
  framed x y r k false false false true true q = q
  framed x y r k false false false true false q = k q
  framed x y r k false false false false g q = q

  module _ (C C' N : ℕ) (r : Said) (w : Fits C r) where
    inner : says d (read_fragment_lem C' N d) ≡ r → says d (read_fragment_lem C N d) ≡ r
    unfolding read_fragment_lem
    inner e = go (eqb (count_in d) 0 || (ltb N (count_in d) || leb (count_in d) (number_in d))) (ltb C' (size_in d)) e
      where
        go : (t b : Bool) → says d (pick t (Refused 5) (pick b (Refused 6) body)) ≡ r → says d (pick t (Refused 5) (pick (ltb C (size_in d)) (Refused 6) body)) ≡ r
        go true b q = q
        go false true q = absurd (subst (Fits C) (sym q) w)
        go false false q = rw (le-ltb C (size_in d) (said-size C r w body body-size q)) q

    -- what is said within one limit is said within another that it fits
    pub said-within : said C' N d ≡ r → said C N d ≡ r
    unfolding said read_datagram_lem
    said-within e =
        framed (read_fragment_lem C' N d) (read_fragment_lem C N d) r inner
        (ltb max_datagram (length d)) (ltb (length d) 8) (eqb (magic_in d) small_magic) (eqb (magic_in d) fragment_magic) (ltb (length d) 20) e

pub fragment-within : (C C' N : ℕ) (d : List ℕ) (f : Fragment) → said C' N d ≡ fragment f → f.size ≤ C → said C N d ≡ fragment f
fragment-within C C' N d f e w = said-within d C C' N (fragment f) w e

pub small-within : (C C' N : ℕ) (d : List ℕ) (q : ℕ) (name payload : List ℕ) → said C' N d ≡ small q name payload → said C N d ≡ small q name payload
small-within C C' N d q name payload e = said-within d C C' N (small q name payload) tt e
