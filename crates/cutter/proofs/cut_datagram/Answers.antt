-- `cutter::cut_datagram` meets its contract. Assumes nothing.
use Rattle.wire.proofs.Basics.{◌∙◌, sym, refl, le-ltb, lt-ltb, arith}
use Rattle.std.proofs.lemmas.Result.{err_from_is_err_and}
use Rattle.cutter.specs.Cut.{cut_answer}
use Rattle.cutter.proofs.Sizes.{sized, planned, answer-plan}
use Rattle.cutter.proofs.cut_datagram.Goals as goal

pub returns-then-m-lt-LEAST_SIZE : goal.returns-then-m-lt-LEAST_SIZE
unfolding cut_answer
returns-then-m-lt-LEAST_SIZE c = record { answer = rw (lt-ltb _ _ c.if-m-lt-LEAST_SIZE.true); output = refl }

pub returns-then-m-gt-MOST_SIZE : goal.returns-then-m-gt-MOST_SIZE
unfolding cut_answer
returns-then-m-gt-MOST_SIZE c = record { answer = rw (le-ltb _ _ c.if-m-lt-LEAST_SIZE.false, lt-ltb _ _ c.if-m-gt-MOST_SIZE.true); output = refl }

pub returns-then-not-good_name : goal.returns-then-not-good_name
unfolding cut_answer
returns-then-not-good_name c =
    record {
      answer = rw (le-ltb _ _ c.if-m-lt-LEAST_SIZE.false, le-ltb _ _ c.if-m-gt-MOST_SIZE.false, sym c.good_name.ensures ∙ c.if-not-good_name.true);
      output = refl;
    }

pub invariant_of-message : goal.invariant_of-message
invariant_of-message c = record { sized = sized _ _ (sym c.good_name.ensures ∙ c.if-not-good_name.false) c.if-m-lt-LEAST_SIZE.false c.if-m-gt-MOST_SIZE.false }

pub returns-in_err-cut : goal.returns-in_err-cut
returns-in_err-cut c =
    let p = err_from_is_err_and c.from_residual.result c.from_residual.ensures.1 in
    rw (p.1, p.2)
    (record {
      answer = c.in_err-cut.ensures ∙ sym (answer-plan _ _ _ _ _ c.if-m-lt-LEAST_SIZE.false c.if-m-gt-MOST_SIZE.false (sym c.good_name.ensures ∙ c.if-not-good_name.false));
      output = refl;
    })

pub put_datagram-requires : goal.put_datagram-requires
put_datagram-requires c =
    let made = planned _ _ _ _ _ _ _ (sym c.in_ok-cut.ensures) in
    ((made.limited, omega (arith, made.few, made.asked)), made.count)

pub returns : goal.returns
returns c =
    record {
      answer = c.in_ok-cut.ensures ∙ sym (answer-plan _ _ _ _ _ c.if-m-lt-LEAST_SIZE.false c.if-m-gt-MOST_SIZE.false (sym c.good_name.ensures ∙ c.if-not-good_name.false));
      output = c.put_datagram.ensures;
    }
