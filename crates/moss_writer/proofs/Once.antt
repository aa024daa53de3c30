-- No second answer satisfies a contract of this crate. Assumes nothing.
use Rattle.wire.proofs.Basics.{◌∙◌, sym, ◌≡◌, ℕ, List}
use Rattle.std.proofs.Common.{Result}
use Rattle.wire.proofs.Once.{one_answer}
use Rattle.refusals.specs.declared.Refusal.{Refusal}
use Rattle.refusals.proofs.Names.{same_given}
use Rattle.moss.specs.Packet.{Given}
use Rattle.moss_writer.specs.Write.{WrittenTo}

-- `write_packet` and `lay_block`: the answer and every byte of the output
pub write-once : {said : Given ℕ} {at : ℕ} {b out : List ℕ} (r s : Result ℕ Refusal) (x y : List ℕ) → WrittenTo said at b out r x → WrittenTo said at b out s y
    → (r ≡ s) × (x ≡ y)
write-once r s x y p q = (same_given r s (p.answer ∙ sym q.answer), one_answer x y p.output q.output)
