-- What follows what was taken. Assumes nothing.
use Rattle.wire.proofs.Basics.{◌≡◌, refl, ℕ, ◌+◌, List, ◌++◌, length, arith}
use lib.Seq.{get_or-append-add}
use Rattle.wire.specs.Bytes.{Bytes}
use Rattle.wire.specs.Taken.{Taken, taken, refused, follow}

-- both were taken
pub record Both {X Y : Type 0} (t : Taken X) (f : X → List ℕ → Taken Y) (y : Y) (rest : List ℕ) : Type 0 where
  pub value : X
  pub left : List ℕ
  pub first : t ≡ taken value left
  pub second : f value left ≡ taken y rest

pub both : {X Y : Type 0} (t : Taken X) (f : X → List ℕ → Taken Y) (y : Y) (rest : List ℕ) → follow t f ≡ taken y rest → Both t f y rest
both (taken x b) f y rest e = record { value = x; left = b; first = refl; second = e }
both (refused n) f y rest e = absurd (let z : ◌≡◌ {A = ℕ} 0 1 = cc in omega arith)

-- the bytes after some bytes are bytes
pub rest-bytes : (a b c : List ℕ) → a ++ b ≡ c → Bytes c → Bytes b
rest-bytes a b c e h i = rw (← get_or-append-add a b i 0, e) (h (length a + i))
