-- The places of an accepted datagram fit the host's fields; no second answer. Assumes nothing.
use Rattle.wire.proofs.Basics.{◌≡◌, ℕ, List, arith}
use Rattle.wire.proofs.Once.{one_answer}
use Rattle.datagram.specs.Read.{Read, Good, read_datagram_lem}
use Rattle.datagram.specs.declared.Header.{Header}
use Rattle.datagram.proofs.Places.{accepted-good}
use Rattle.host.specs.Code.{CutTold}
use Rattle.host.specs.Fields.{Told}
use Rattle.host.specs.Inside.{PlacesFit}

pub places_fit : (C N : ℕ) (d : List ℕ) (h : Header) → read_datagram_lem C N d ≡ Good h → PlacesFit h
places_fit C N d h e =
    let i = (accepted-good C N d h e).0 in
    record {
      name-at = omega (arith, i.short, i.name_in_lem);
      name-len = omega (arith, i.short, i.name_in_lem);
      payload-at = omega (arith, i.short, i.payload_in_lem);
      payload-len = omega (arith, i.short, i.payload_in_lem);
    }

-- ---- no second answer, and no second list or output

pub told-once : {r : Read} {list : List ℕ} (x y : ℕ) (a b : List ℕ) → Told r list x a → Told r list y b → (x ≡ y) × (a ≡ b)
told-once x y a b p q = (one_answer x y p.gave q.gave, one_answer a b p.left q.left)

pub cut-told-once : {name payload : List ℕ} {q m index : ℕ} {out : List ℕ} (x y : ℕ) (a b : List ℕ)
    → CutTold name payload q m index out x a → CutTold name payload q m index out y b → (x ≡ y) × (a ≡ b)
cut-told-once x y a b p q = (one_answer x y p.gave q.gave, one_answer a b p.left q.left)
