-- The line of a record by its cases. Assumes nothing.
use Rattle.wire.proofs.Basics.{◌∙◌, sym, ◌≡◌, ap, refl, subst, ℕ, ◌≤◌, ◌<◌, ◌%◌, ◌/◌, List, [], ◌∷◌, ◌++◌, length, take, eq-eqb, le-ltb, ne_eqb, lt-ltb, arith}
use Rattle.ack_blocks.specs.Limits.{max_blocks}
use Rattle.ack_blocks.specs.Read.{Given, refuses}
use Rattle.ack_writer.specs.Write.{bytes_of, written_of, writes, WritesBlocks}
use Rattle.std.proofs.Common.{Result, Ok, Err}
use Rattle.refusals.specs.declared.Refusal.{Refusal}
use Rattle.refusals.specs.Numbers.{number_of}
use Rattle.ack_writer.proofs.Trips.{write_bytes}
use Rattle.text.specs.Text.{decimal, hex}
use Rattle.ack_bytes.specs.Lines.{list_limit, record_list, record_answer, bytes_text, answer_text, longer_text, line}

-- ---- the blocks as text

pub bytes-none : (b : List ℕ) → length b ≡ 0 → 32 ∷ 98 ∷ 121 ∷ 116 ∷ 101 ∷ 115 ∷ 10 ∷ [] ≡ bytes_text b
bytes-none [] h = refl
bytes-none (x ∷ b) h = absurd (let z : ⊥ = omega arith in z)

pub bytes-some : (b : List ℕ) → (length b ≡ 0 → ⊥) → (32 ∷ 98 ∷ 121 ∷ 116 ∷ 101 ∷ 115 ∷ 32 ∷ []) ++ hex b ++ 10 ∷ [] ≡ bytes_text b
bytes-some [] h = absurd (h refl)
bytes-some (x ∷ b) h = refl

-- ---- the line

module _ (n : ℕ) (b : List ℕ) where
  pub line_longer : list_limit < length b / 8 → decimal n ++ longer_text ≡ line n b
  unfolding line
  line_longer h = rw (lt-ltb list_limit (length b / 8) h)

  module _ (held : length b / 8 ≤ list_limit) where
    pub line-is : line n b ≡ decimal n ++ answer_text (record_answer b) (bytes_of (record_list b))
    unfolding line
    line-is = rw (le-ltb list_limit (length b / 8) held)

    answer-cut : (length b % 8 ≡ 0 → ⊥) → record_answer b ≡ refuses 70
    unfolding record_answer
    answer-cut h = rw (ne_eqb (length b % 8) 0 h)

    answer-whole : length b % 8 ≡ 0 → record_answer b ≡ written_of (record_list b) max_blocks
    unfolding record_answer
    answer-whole h = rw (eq-eqb (length b % 8) 0 h)

    pub line-cut : (length b % 8 ≡ 0 → ⊥) → decimal n ++ answer_text (refuses 70) (bytes_of (record_list b)) ≡ line n b
    line-cut h = sym (line-is ∙ ap (λ (g : Given ℕ). decimal n ++ answer_text g (bytes_of (record_list b))) (answer-cut h))

    module _ (whole : length b % 8 ≡ 0) (out out' : List ℕ) (room : length out ≡ max_blocks) where
      answered : (w : Result ℕ Refusal) → WritesBlocks (record_list b) out w out' → record_answer b ≡ writes w
      answered w p = answer-whole whole ∙ ap (written_of (record_list b)) (sym room) ∙ sym p.answer

      -- of the list that was taken
      module _ (l : List ℕ) (e : l ≡ record_list b) where
        pub line-bytes : (k : ℕ) → WritesBlocks l out (Ok k) out' → decimal n ++ bytes_text (take k out') ≡ line n b
        line-bytes k q =
            let p = subst (λ (x : List ℕ). WritesBlocks x out (Ok k) out') e q in
            ap (λ (x : List ℕ). decimal n ++ bytes_text x) (write_bytes (record_list b) out k out' p)
            ∙ sym (line-is ∙ ap (λ (g : Given ℕ). decimal n ++ answer_text g (bytes_of (record_list b))) (answered (Ok k) p))

        pub line_refused : (r : Refusal) → WritesBlocks l out (Err r) out' → decimal n ++ answer_text (refuses (number_of r)) (bytes_of (record_list b)) ≡ line n b
        line_refused r q =
            let p = subst (λ (x : List ℕ). WritesBlocks x out (Err r) out') e q in
            sym (line-is ∙ ap (λ (g : Given ℕ). decimal n ++ answer_text g (bytes_of (record_list b))) (answered (Err r) p))
