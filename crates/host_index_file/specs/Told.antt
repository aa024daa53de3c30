-- What the C host is told of an index file: of its head, and of a key. Definitions only.
use Rattle.std.specs.Prelude.{◌≡◌, List, [], ◌∷◌, ℕ, ltb, length}
use Rattle.wire.specs.Choice.{pick}
use Rattle.wire.specs.Overlay.{overlay}
use Rattle.index_file.specs.Files.{head_in}
use Rattle.index_file.specs.Head.{Head}
use Rattle.index_file.specs.Head as head
use Rattle.index_look.specs.Look.{looked_up_lem}
use Rattle.index_look.specs.Looked.{Looked}
use Rattle.index_look.specs.Looked as looked
use Rattle.host_index.specs.Told.{place_count}

-- ---- the head of an index file: 0, and how many bytes it covers and how many rows it has; 13 where the list has no room

abbrev pub head_code : Head → ℕ
head_code (head.Of covered n) = 0
head_code (head.Refused k) = k

abbrev pub head_numbers : Head → List ℕ
head_numbers (head.Of covered n) = covered ∷ n ∷ []
head_numbers (head.Refused k) = []

pub record HeadTold (f list : List ℕ) (answer : ℕ) (list' : List ℕ) : Type 0 where
  pub gave : answer ≡ pick (ltb (length list) place_count) 13 (head_code (head_in f))
  pub left : list' ≡ pick (ltb (length list) place_count) list (overlay list 0 (head_numbers (head_in f)))

-- ---- a key, by a log and its index file: 0, and 1 and where its first entry begins, or 0 and 0; 13 where the list has no room

abbrev pub looked_code : Looked → ℕ
looked_code (looked.At place) = 0
looked_code looked.Nowhere = 0
looked_code (looked.Refused k) = k

abbrev pub looked_numbers : Looked → List ℕ
looked_numbers (looked.At place) = 1 ∷ place ∷ []
looked_numbers looked.Nowhere = 0 ∷ 0 ∷ []
looked_numbers (looked.Refused k) = []

pub record LookTold (log f : List ℕ) (s q : ℕ) (list : List ℕ) (answer : ℕ) (list' : List ℕ) : Type 0 where
  pub gave : answer ≡ pick (ltb (length list) place_count) 13 (looked_code (looked_up_lem log f s q))
  pub left : list' ≡ pick (ltb (length list) place_count) list (overlay list 0 (looked_numbers (looked_up_lem log f s q)))
