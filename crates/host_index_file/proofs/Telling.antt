-- What is told of an index file is what its functions give; no second answer. Assumes nothing.
use Rattle.wire.proofs.Basics.{◌∙◌, ◌≡◌, ap, ℕ, ◌≤◌, ◌<◌, List, length, le-ltb, lt-ltb}
use Rattle.wire.specs.Overlay.{overlay}
use Rattle.wire.proofs.Once.{one_answer}
use Rattle.index_file.specs.Files.{head_in}
use Rattle.index_file.specs.Head.{Head}
use Rattle.index_look.specs.Look.{looked_up_lem}
use Rattle.index_look.specs.Looked.{Looked}
use Rattle.host_index.specs.Told.{place_count}
use Rattle.host_index_file.specs.Told.{head_code, head_numbers, HeadTold, looked_code, looked_numbers, LookTold}

pub head-short : (f list : List ℕ) → length list < place_count → HeadTold f list 13 list
head-short f list h = let t = lt-ltb (length list) place_count h in record { gave = rw t; left = rw t }

pub head-told : (f list : List ℕ) (x : ℕ) (list' : List ℕ) (r : Head) → place_count ≤ length list → r ≡ head_in f → x ≡ head_code r → list' ≡ overlay list 0 (head_numbers r) → HeadTold f list x list'
head-told f list x list' r h e c l =
    let t = le-ltb (length list) place_count h in
    record { gave = rw t (c ∙ ap head_code e); left = rw t (l ∙ ap (λ (o : Head). overlay list 0 (head_numbers o)) e) }

pub look-short : (log f : List ℕ) (s q : ℕ) (list : List ℕ) → length list < place_count → LookTold log f s q list 13 list
look-short log f s q list h = let t = lt-ltb (length list) place_count h in record { gave = rw t; left = rw t }

-- the sequence goes in as a word
pub look-told : (log f : List ℕ) (s q : ℕ) (list : List ℕ) (word x : ℕ) (list' : List ℕ) (r : Looked) → place_count ≤ length list → word ≡ q → r ≡ looked_up_lem log f s word → x ≡ looked_code r → list' ≡ overlay list 0 (looked_numbers r)
    → LookTold log f s q list x list'
look-told log f s q list word x list' r h v e c l =
    let t = le-ltb (length list) place_count h in
    let g : r ≡ looked_up_lem log f s q = e ∙ ap (looked_up_lem log f s) v in
    record { gave = rw t (c ∙ ap looked_code g); left = rw t (l ∙ ap (λ (o : Looked). overlay list 0 (looked_numbers o)) g) }

-- ---- no second answer, and no second list

pub head-told-once : (f list : List ℕ) (x y : ℕ) (a b : List ℕ) → HeadTold f list x a → HeadTold f list y b → (x ≡ y) × (a ≡ b)
head-told-once f list x y a b p q = (one_answer x y p.gave q.gave, one_answer a b p.left q.left)

pub look-told-once : (log f : List ℕ) (s q : ℕ) (list : List ℕ) (x y : ℕ) (a b : List ℕ) → LookTold log f s q list x a → LookTold log f s q list y b → (x ≡ y) × (a ≡ b)
look-told-once log f s q list x y a b p r = (one_answer x y p.gave r.gave, one_answer a b p.left r.left)
