-- What follows a number, and the block of a run, by their cases. Assumes nothing.
use Rattle.wire.proofs.Basics.{sym, ◌≡◌, refl, ℕ, ◌+◌, ◌-◌, true, false, Bool, length, length-append, eqb, eq-eqb, ne_eqb, eqb-true, eqb-false, arith}
use Rattle.wire.proofs.Numbers.{length-bytes}
use Rattle.ack_blocks.specs.Limits.{single_length, run_length_lem}
use Rattle.ack_blocks.specs.Blocks.{single, run, block_bytes}
use Rattle.ack_writer.specs.Write.{one_block}

-- ---- what follows a number

pub follows-zero : (last x : ℕ) → x ≡ 0 → false ≡ eqb x (last + 1)
follows-zero last x h = sym (ne_eqb x (last + 1) (λ e. omega arith))

pub follows-some : (last x : ℕ) → (x ≡ 0 → ⊥) → eqb (x - 1) last ≡ eqb x (last + 1)
follows-some last x h = go (eqb x (last + 1)) refl
  where
    go : (t : Bool) → eqb x (last + 1) ≡ t → eqb (x - 1) last ≡ t
    go true e = let f = eqb-true x (last + 1) e in eq-eqb (x - 1) last (omega arith)
    go false e = ne_eqb (x - 1) last (λ f. eqb-false x (last + 1) e (omega arith))

-- ---- the block of a run

pub one_single : (first last : ℕ) → first ≡ last → one_block first last ≡ single first
one_single first last h = rw (eq-eqb first last h)

pub one-run : (first last : ℕ) → (first ≡ last → ⊥) → one_block first last ≡ run first last
one-run first last h = rw (ne_eqb first last h)

pub single-length : (p : ℕ) → length (block_bytes (single p)) ≡ single_length
single-length p = simp (length-append, length-bytes)

pub run_length : (first last : ℕ) → length (block_bytes (run first last)) ≡ run_length_lem
run_length first last = simp (length-append, length-bytes)
