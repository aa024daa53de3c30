use Rattle.wire.proofs.Basics.{◌∙◌, sym, ◌≡◌, ap, refl, ℕ, drop, arith}
use Rattle.stream.specs.Records.{told, ended_as, Record}
use Rattle.stream.specs.declared.Input.{Input}
use Rattle.stream.specs.declared.Ending.{Ending}
use Rattle.stream.specs.declared.Ending.TheVariants as ending
use Rattle.wire.specs.Bytes.{be}
use Rattle.stream.specs.declared.Kind.TheVariants.{Entry}
use Rattle.output.proofs.Sending.{pours-is}
use Rattle.record_lines.proofs.RecordLoop.{going-none, going_more, going_end, going-over, going-shut}
use Rattle.flight_log.specs.Entries.{entry_of, entry_bytes}
use Rattle.log_write.specs.Inside.{says}
use Rattle.log_write.proofs.Records.{short-part, finishes-out}
use Rattle.log_write.proofs.kept.Goals as goal

no_record : (e : Ending) (from len : ℕ) (left : Input) → ended_as e ≡ Record from len left → ⊥
no_record ending.End from len left q = cc
no_record ending.Cut from len left q = cc

pub loop-n-init : goal.loop-n-init
loop-n-init c =
    let a = c.args in
    (refl, refl, going-none says Entry a.buf.now a.input tt a.out.now a.first)

pub returns-in_default : goal.returns-in_default
returns-in_default c =
    let x = ap told c.in_default.is in
    going_end c.loop-n.invariant.2 (omega arith) (told c.next_record.result) (λ from len left q. no_record _ from len left (sym x ∙ q)) _ c.next_record.ensures (finishes-out c.write_out.ensures)

pub keep-at-requires : goal.keep-at-requires
keep-at-requires c = omega (arith, c.loop-n.invariant.1, c.requires)

pub returns-then-at : goal.returns-then-at
returns-then-at c =
    let l = c.loop-n in
    let few = short-part l.buf c.next_record.new.buf l.rest (λ i. (c.slice_known-in-loop-n-1.given i).fits) c.next_record.ensures (ap told c.in-Ok.is) c.part.ensures in
    let h = c.head.ensures in
    let q = pours-is (c.keep-at.ensures few) (λ j. entry_bytes (entry_of (be 8 (h j)) (be 8 (drop 8 (h j))) (c.part.ensures j))) in
    going-shut (going_more l.invariant.2 (omega arith) c.next_record.ensures (ap told c.in-Ok.is) c.next_record.auto.buf q) c.if-at.true

pub loop-n-preserved : goal.loop-n-preserved
loop-n-preserved c =
    let l = c.loop-n in
    let few = short-part l.buf c.next_record.new.buf l.rest (λ i. (c.slice_known-in-loop-n-1.given i).fits) c.next_record.ensures (ap told c.in-Ok.is) c.part.ensures in
    let h = c.head.ensures in
    let q = pours-is (c.keep-at.ensures few) (λ j. entry_bytes (entry_of (be 8 (h j)) (be 8 (drop 8 (h j))) (c.part.ensures j))) in (
      c.keep-at.auto.out ∙ l.invariant.0,
      c.keep-at.auto.space ∙ l.invariant.1,
      going_more l.invariant.2 (omega arith) c.next_record.ensures (ap told c.in-Ok.is) c.next_record.auto.buf q,
    )

pub returns : goal.returns
returns c = going-over c.loop-n.invariant.2 (omega arith) (finishes-out c.write_out-2.ensures)
