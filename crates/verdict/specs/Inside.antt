-- INSIDE: what the private functions give, and what is known of a verdict. Definitions only; no promise of a public function rests on them.
use Rattle.std.specs.Prelude.{Option, Some, None, ◌≡◌, true, List, ℕ, ◌<◌}
use Rattle.datagram.specs.declared.Header.{Header}
use Rattle.steps.specs.Limits.{slot_count}
use Rattle.receiver_state.specs.Inside.{Ready, Told}
use Rattle.verdict.specs.Decided.{Verdict, Refuse, Again, Deliver, Join, Begin}

abbrev pub small_verdict : Header → Option ℕ → Verdict
small_verdict h (Some s) = Refuse 8
small_verdict h None = Deliver h

-- something is done only with a state in order and a header that was read; only a small message is delivered at once, and a slot that is joined is one
-- of them all
abbrev pub Possible : List ℕ → List ℕ → List ℕ → Verdict → Type 0
Possible w n d (Refuse k) = Unit {0}
Possible w n d Again = Unit {0}
Possible w n d (Deliver h) = Ready w n × Told d h × (h.small ≡ true)
Possible w n d (Join s h) = Ready w n × Told d h × (s < slot_count)
Possible w n d (Begin h) = Ready w n × Told d h
