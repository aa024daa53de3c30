-- What the functions do, a step at a time: a row is read, the head is judged, rows are copied. Assumes nothing.
use Rattle.wire.proofs.Basics.{◌∙◌, sym, ◌≡◌, ap, refl, ℕ, ◌≤◌, ◌+◌, ◌<◌, ◌-◌, ◌*◌, ◌%◌, ◌/◌, List, [], ◌∷◌, ◌++◌, false, ◌&&◌, length, get_or, drop-drop, eqb, eq-eqb, le-ltb, ne_eqb, arith}
use Rattle.wire.specs.Bytes.{Number, be}
use Rattle.wire.specs.Overlay.{overlay}
use Rattle.wire.proofs.Choices.{and-of, and-false}
use Rattle.wire.proofs.Overlays.{overlay-nil, overlay-next, length-overlay}
use Rattle.log_index.specs.Rows.{Row, row_of}
use Rattle.log_index.specs.Words.{words_of}
use Rattle.log_index.proofs.Wordings.{words_append, words-length}
use Rattle.index_file.specs.File.{count_in, is_file, file_row, first_rows}
use Rattle.index_file.specs.Files.{head_in}
use Rattle.index_file.specs.Head.{Of, Refused}
use Rattle.index_file.proofs.Places.{first-length, first_next}
use Rattle.index_file.proofs.Determines.{row_inside}
use Rattle.index_file.proofs.Answers.{head-of, head-refused}

-- ---- a row is read

module _ (f : List ℕ) (i : ℕ) where
  pub row-none : (length f - 17) / 20 ≤ i → row_of 0 0 0 ≡ file_row f i
  unfolding file_row
  row-none h = rw (le-ltb i ((length f - 17) / 20) h) refl

  pub row-some : (a b c : ℕ) → i < (length f - 17) / 20 → Number f (17 + 20 * i) 8 a → Number f (17 + 20 * i + 8) 4 b → Number f (17 + 20 * i + 12) 8 c
      → row_of a b c ≡ file_row f i
  row-some a b c h x y z =
      (λ j. row_of (x.value j) ((y.value ∙ ap (be 4) (sym (drop-drop 8 (17 + 20 * i) f))) j) ((z.value ∙ ap (be 8) (sym (drop-drop 12 (17 + 20 * i) f))) j))
      ∙ sym (row_inside f i h)

-- ---- the head is judged

module _ (f : List ℕ) where
  not-file : eqb (length f) (17 + 20 * count_in f) ≡ false → Refused 46 ≡ head_in f
  unfolding is_file
  not-file e = sym (head-refused f (ap (λ b. eqb (get_or f 0 0) 1 && b) e ∙ and-false (eqb (get_or f 0 0) 1)))

  pub head-short : length f < 17 → Refused 46 ≡ head_in f
  head-short h = not-file (ne_eqb (length f) (17 + 20 * count_in f) (λ e. omega (arith, h, e)))

  pub head-other : (get_or f 0 0 ≡ 1 → ⊥) → Refused 46 ≡ head_in f
  unfolding is_file
  head-other h = sym (head-refused f (rw (ne_eqb (get_or f 0 0) 1 h) refl))

  pub head-odd : ((length f - 17) % 20 ≡ 0 → ⊥) → Refused 46 ≡ head_in f
  head-odd h =
      not-file (ne_eqb (length f) (17 + 20 * count_in f) (λ e. let z : (length f - 17) % 20 ≡ 0 = omega (arith, e) in h z))

  module _ (x : ℕ) (n : Number f 9 8 x) where
    pub head-count : (x ≡ (length f - 17) / 20 → ⊥) → Refused 46 ≡ head_in f
    head-count h =
        not-file (ne_eqb (length f) (17 + 20 * count_in f) (λ e. let v = n.value in let z : x ≡ (length f - 17) / 20 = omega (arith, e, v) in h z))

    pub head-good : 17 ≤ length f → get_or f 0 0 ≡ 1 → (length f - 17) % 20 ≡ 0 → x ≡ (length f - 17) / 20 → (y : ℕ) → Number f 1 8 y
        → Of y ((length f - 17) / 20) ≡ head_in f
    unfolding is_file
    head-good h e m d y c =
        let v = n.value in
        let s : length f ≡ 17 + 20 * count_in f = omega (arith, h, m, d, v) in
        let g = and-of (eqb (get_or f 0 0) 1) (eqb (length f) (17 + 20 * count_in f)) (eq-eqb (get_or f 0 0) 1 e) (eq-eqb (length f) (17 + 20 * count_in f) s) in
        let t : (length f - 17) / 20 ≡ count_in f = sym d ∙ v in
        (λ j. Of (c.value j) (t j)) ∙ sym (head-of f g)

-- ---- rows are copied

words-one : (r : Row) → words_of (r ∷ []) ≡ r.sender ∷ r.sequence ∷ r.place ∷ []
unfolding words_of
words-one r = refl

pub words-laid : (r : Row) (w w' : List ℕ) (at : ℕ) → w' ≡ overlay w at (r.sender ∷ r.sequence ∷ r.place ∷ []) → w' ≡ overlay w at (words_of (r ∷ []))
words-laid r w w' at e = e ∙ ap (overlay w at) (sym (words-one r))

-- the first i rows stand in the words
pub record Copied (row : ℕ → Row) (w : List ℕ) (i : ℕ) (v : List ℕ) : Type 0 where
  pub size : length v ≡ length w
  pub words : v ≡ overlay w 0 (words_of (first_rows i row))

module _ (row : ℕ → Row) (w : List ℕ) where
  pub copy-none : Copied row w 0 w
  unfolding first_rows words_of
  copy-none = record { size = refl; words = sym (overlay-nil w 0) }

  pub copy-turn : (i : ℕ) (v v' : List ℕ) (r : Row) → Copied row w i v → r ≡ row i → v' ≡ overlay v (3 * i) (words_of (r ∷ [])) → Copied row w (i + 1) v'
  copy-turn i v v' r c d g =
      let l : 3 * i ≡ length (words_of (first_rows i row)) = ap (λ (k : ℕ). 3 * k) (sym (first-length i row)) ∙ sym (words-length (first_rows i row)) in
      record {
        size = ap length g ∙ length-overlay v (3 * i) (words_of (r ∷ [])) ∙ c.size;
        words =
            overlay-next w (words_of (first_rows i row)) (words_of (r ∷ [])) v v' (3 * i) c.words l g
            ∙ ap (λ (x : Row). overlay w 0 (words_of (first_rows i row) ++ words_of (x ∷ []))) d
            ∙ ap (overlay w 0) (sym (words_append (first_rows i row) (row i ∷ [])))
            ∙ ap (λ (l : List Row). overlay w 0 (words_of l)) (sym (first_next i row));
      }

  pub copy-all : (i n : ℕ) (v : List ℕ) → Copied row w i v → i ≡ n → v ≡ overlay w 0 (words_of (first_rows n row))
  copy-all i n v c e = c.words ∙ ap (λ (k : ℕ). overlay w 0 (words_of (first_rows k row))) e
