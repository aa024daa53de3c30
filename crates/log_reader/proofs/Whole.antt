-- Reading on from the open reader to its end gives the entries in the log. Assumes nothing.
use Rattle.wire.proofs.Basics.{◌∙◌, ◌≡◌, ap, refl, ℕ, suc, zero, List, length}
use denote.Ref.{Bor}
use Rattle.wire.specs.Bytes.{Bytes}
use Rattle.flight_log.specs.Listed.{after, entries_in}
use Rattle.flight_log.specs.Said.{entry_said, read_at, place_after_lem, read_on, read_all}
use Rattle.flight_log.specs.Said as told
use Rattle.flight_log.specs.Step.{Step}
use Rattle.flight_log.specs.Step.{Found, End, Refused}
use Rattle.flight_log.proofs.ReadingOn.{read-all, refused-again}
use Rattle.log_reader.specs.Reader.{reader_at, step_now, onward, listed, reads_on, reads_all}
use Rattle.log_reader.specs.declared.LogReader.{LogReader}

-- the reader's calls go the way of the places
ways : (k : ℕ) (log : Bor (List ℕ)) (at : ℕ) → reads_on k (reader_at log at) ≡ read_on k log.now at
unfolding reads_on read_on
ways zero log at = refl
ways (suc k) log at = by-step (λ a. ways k log a) (read_at log.now at)
  where
    by-step : ((a : ℕ) → reads_on k (reader_at log a) ≡ read_on k log.now a) → (s : Step)
        → listed (reads_on k (reader_at log (place_after_lem at s))) (reader_at log at) s ≡ told.onward (read_on k log.now) log.now s
    by-step ih (Found e) = ap (after (entry_said log.now e)) (ih e.next)
    by-step ih End = refl
    by-step ih (Refused n) = refl

pub reads_all_lem : (log : Bor (List ℕ)) → Bytes log.now → reads_all log ≡ entries_in log.now
unfolding reads_all read_all
reads_all_lem log h = ways (suc (length log.now)) log 0 ∙ read-all log.now h

-- after a refusal the reader stands where it stood, and the same refusal comes again
pub refused-stays : (r : LogReader) (n : ℕ) → step_now r ≡ Refused n → (onward r ≡ r) × (step_now (onward r) ≡ Refused n)
refused-stays r n e = (ap (reader_at r.log) (ap (place_after_lem r.at) e), refused-again r.log.now r.at n e)
