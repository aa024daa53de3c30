-- The count entry by entry, as the code's loop goes: what it finds against an entry, and what lent memory it leaves. Definitions only.
use Rattle.std.specs.Prelude.{◌≡◌, List, [], ◌∷◌, ◌++◌, ℕ, eqb, ltb, ℤ, length}
use Rattle.wire.specs.Choice.{pick}
use Rattle.steps.specs.Answers.{Reply, refused_by, kept, repeat, delivered}
use Rattle.steps.specs.Runs.{World, fresh}
use Rattle.lmcp.specs.Message.{listed}
use Rattle.lmcp.specs.Lists.{read_list}
use Rattle.flight_log.specs.declared.reader.Limits.{Limits}
use Rattle.flight_log.specs.Editions.{limits_in_lem}
use Rattle.flight_log.specs.Entries.{Entry}
use Rattle.flight_log.specs.Listed.{Listed, whole, broken, entries_in}
use Rattle.count_rules.specs.Marks.{PitList, list_in}
use Rattle.count_rules.specs.Run.{answer_to, left_by, payloads}
use Rattle.count_rules.specs.Count.{max_entries, fault, first_fault, Outcome, answers_to, count_log_lem}

-- ---- what one answer does: only a delivered payload is read

-- what stands against it
abbrev pub fault_at_lem : ℕ → List PitList → Reply → ℕ
fault_at_lem room seen (refused_by n) = 0
fault_at_lem room seen kept = 0
fault_at_lem room seen repeat = 0
fault_at_lem room seen (delivered b) = fault room seen b

-- the lists seen then, the latest first
abbrev pub seen_at : List PitList → Reply → List PitList
seen_at seen (refused_by n) = seen
seen_at seen kept = seen
seen_at seen repeat = seen
seen_at seen (delivered b) = list_in b ++ seen

-- the number list then
abbrev pub list_at : List ℤ → Reply → List ℤ
list_at list (refused_by n) = list
list_at list kept = list
list_at list repeat = list
list_at list (delivered b) = listed (read_list b) list

-- ---- the walk

-- the receiver with store and ledger, and the number list
pub record Held : Type 0 where
  pub world : World
  pub list : List ℤ

pub record Walked : Type 0 where
  -- 0, or the number of the refusal that ended it
  pub fault : ℕ
  pub held : Held

-- an entry's call is made, and its payload read, before anything is held against it
abbrev pub held_after : Limits → Held → Entry → Held
held_after l h e = record { world = left_by l h.world e; list = list_at h.list (answer_to l h.world e) }

unfoldable pub walk : Limits → ℕ → List PitList → Held → List Entry → Walked
walk l room seen h [] = record { fault = 0; held = h }
walk l room seen h (e ∷ es) =
    pick (eqb (fault_at_lem room seen (answer_to l h.world e)) 0)
    (walk l room (seen_at seen (answer_to l h.world e)) (held_after l h e) es)
    (record { fault = fault_at_lem room seen (answer_to l h.world e); held = held_after l h e })

abbrev pub at_first : List ℕ → List ℕ → List ℤ → Held
at_first store ledger list = record { world = fresh store ledger; list = list }

unfoldable pub walk_entries : Limits → List ℕ → List ℕ → List ℤ → List Entry → Walked
walk_entries l store ledger list es = walk l (length list) [] (at_first store ledger list) es

-- what is lent at the end: by a log's own refusal, and by 62, nothing is called
abbrev pub left_after : Limits → List ℕ → List ℕ → List ℤ → Listed → Held
left_after l store ledger list (whole es) = pick (ltb max_entries (length es)) (at_first store ledger list) (walk_entries l store ledger list es).held
left_after l store ledger list (broken es n) = at_first store ledger list

unfoldable pub held_by : List ℕ → List ℕ → List ℤ → List ℕ → Held
held_by store ledger list log = left_after (limits_in_lem log) store ledger list (entries_in log)

-- what is lent to the count: the receiver's store and ledger, and the number list
pub record Loan : Type 0 where
  pub store : List ℕ
  pub ledger : List ℕ
  pub list : List ℤ

abbrev pub loan : List ℕ → List ℕ → List ℤ → Loan
loan store ledger list = record { store = store; ledger = ledger; list = list }

-- of what is held
abbrev pub loan_of : Held → Loan
loan_of h = loan h.world.store h.world.ledger h.list

-- ---- THE CONTRACT OF THE COUNT, for a log and what is lent, and what that holds afterwards
pub record CountsTo (log : List ℕ) (l : Loan) (answer : Outcome) (l' : Loan) : Type 0 where
  pub gave : answer ≡ count_log_lem (length l.list) l.store l.ledger log
  pub left : l' ≡ loan_of (held_by l.store l.ledger l.list log)

-- two answers to one call, with what they leave, are one
pub record NoSecond (a b : Outcome) (l₁ l₂ : Loan) : Type 0 where
  pub answer : a ≡ b
  pub left : l₁ ≡ l₂

-- ---- the walk finds what the count says, and with nothing found it goes through all entries

-- the lists seen after some payloads, the latest first
abbrev pub seen_after : List PitList → List (List ℕ) → List PitList
seen_after seen [] = seen
seen_after seen (p ∷ ps) = seen_after (list_in p ++ seen) ps

-- what the entries leave
abbrev pub held_all : Limits → Held → List Entry → Held
held_all l h [] = h
held_all l h (e ∷ es) = held_all l (held_after l h e) es

pub record Agrees (l : Limits) (store ledger : List ℕ) (list : List ℤ) (es : List Entry) : Type 0 where
  pub same-fault : (walk_entries l store ledger list es).fault ≡ first_fault (length list) [] (payloads (answers_to l store ledger es))
  pub whole : (walk_entries l store ledger list es).fault ≡ 0 → (walk_entries l store ledger list es).held ≡ held_all l (at_first store ledger list) es
