-- A log's entries through a receiver: what each is answered, the counts over these answers, and the lists among what is delivered. Definitions only.
use Rattle.std.specs.Prelude.{Bool, true, false, List, [], ◌∷◌, ℕ, ◌+◌, eqb}
use Rattle.words.specs.Builds.{build}
use Rattle.steps.specs.Search.{one}
use Rattle.steps.specs.Receive.{After}
use Rattle.steps.specs.Answers.{Reply, refused_by, kept, repeat, delivered, reply}
use Rattle.steps.specs.Runs.{World, world_of, Arrival, from}
use Rattle.flight_log.specs.Entries.{Entry}
use Rattle.flight_log.specs.declared.reader.Limits.{Limits}
use Rattle.within_limits.specs.Within.{step_within}
use Rattle.sorted_set.specs.Lists.{gather}
use Rattle.count_rules.specs.Marks.{PitList, list_in}

-- an entry is given to the receiver as it came; its tick plays no part
abbrev pub arrival_of : Entry → Arrival
arrival_of e = from e.sender e.datagram

-- what is done with one entry, by the step list; the log's limits bind beside the slot size
unfoldable pub called : Limits → World → Entry → After
called l w e = step_within l w.machine w.store w.ledger e.sender e.datagram

-- what it is answered
abbrev pub answer_to : Limits → World → Entry → Reply
answer_to l w e = reply e.datagram (called l w e).store (called l w e).answer

-- and what is then lent
abbrev pub left_by : Limits → World → Entry → World
left_by l w e = world_of (called l w e)

-- what each entry is answered, in order, each call with what the one before left
unfoldable pub answers : Limits → World → List Entry → List Reply
answers l w [] = []
answers l w (e ∷ es) = answer_to l w e ∷ answers l (left_by l w e) es

-- ---- the counts over answers, each by its own definition

abbrev pub is_kept : Reply → Bool
is_kept (refused_by n) = false
is_kept kept = true
is_kept repeat = false
is_kept (delivered b) = false

abbrev pub is_repeat : Reply → Bool
is_repeat (refused_by n) = false
is_repeat kept = false
is_repeat repeat = true
is_repeat (delivered b) = false

abbrev pub is_delivered : Reply → Bool
is_delivered (refused_by n) = false
is_delivered kept = false
is_delivered repeat = false
is_delivered (delivered b) = true

-- by number k
abbrev pub is_refused : ℕ → Reply → Bool
is_refused k (refused_by n) = eqb n k
is_refused k kept = false
is_refused k repeat = false
is_refused k (delivered b) = false

-- how many pass
unfoldable pub how_many : (Reply → Bool) → List Reply → ℕ
how_many p [] = 0
how_many p (r ∷ rs) = one (p r) + how_many p rs

abbrev pub kept_in : List Reply → ℕ
kept_in rs = how_many is_kept rs

abbrev pub repeated_in : List Reply → ℕ
repeated_in rs = how_many is_repeat rs

abbrev pub delivered_in : List Reply → ℕ
delivered_in rs = how_many is_delivered rs

-- the receiver's numbers of refusal are 1 to 9: ten numbers, the first of them 0
abbrev pub refusals : ℕ
refusals = 10

abbrev pub refused_in : List Reply → List ℕ
refused_in rs = build refusals (λ k. how_many (is_refused k) rs)

-- ---- the delivered payloads in order, and the lists among payloads

abbrev pub payload_in : Reply → List (List ℕ)
payload_in (refused_by n) = []
payload_in kept = []
payload_in repeat = []
payload_in (delivered b) = b ∷ []

abbrev pub payloads : List Reply → List (List ℕ)
payloads rs = gather payload_in rs

abbrev pub lists_read : List (List ℕ) → List PitList
lists_read ps = gather list_in ps
