-- The head of a log, and the limits that it sets: document 02, L1 and L10. "Logs are written with edition byte 2, then the payload limit as a
-- seven-bit number. Edition 1 is still read, as limit 262,144 and 256 fragments." Definitions only.
use Rattle.std.proofs.Math.Option.{Option, none, some}
use Rattle.std.specs.Prelude.{List, [], ◌∷◌, ℕ, ◌≤◌, eqb, ltb}
use Rattle.wire.specs.Choice.{pick}
use Rattle.wire.specs.Taken.{Taken, taken, refused, follow}
use Rattle.varint.specs.Seven.{seven, seven_in}
use Rattle.datagram.specs.Limits.{max_payload, max_fragments}
use Rattle.flight_log.specs.declared.reader.Limits.{Limits}

-- edition 2 has its payload limit
pub data Edition : Type 0 where
  edition1 : Edition
  edition2 : ℕ → Edition

-- the first byte of a log
abbrev pub first_byte : ℕ
first_byte = 1

abbrev pub second_byte : ℕ
second_byte = 2

-- "45 a log's limit over 1,048,576"
abbrev pub Lawful : Edition → Type 0
Lawful edition1 = Unit
Lawful (edition2 limit) = limit ≤ max_payload

-- ---- written

abbrev pub head_bytes : Edition → List ℕ
head_bytes edition1 = first_byte ∷ []
head_bytes (edition2 limit) = second_byte ∷ seven limit

-- ---- read: the edition and what follows the head, or the refusal. 40 another edition, 43 no byte or a limit that is cut, then 41, then 45

unfoldable pub limited : ℕ → List ℕ → Taken Edition
limited limit b = pick (ltb max_payload limit) (refused 45) (taken (edition2 limit) b)

unfoldable pub limit_in : List ℕ → Taken Edition
limit_in b = follow (seven_in b) limited

unfoldable pub head_in : List ℕ → Taken Edition
head_in [] = refused 43
head_in (x ∷ b) = pick (eqb x first_byte) (taken edition1 b) (pick (eqb x second_byte) (limit_in b) (refused 40))

-- "A program that knows only edition 1": what it reads of a head
unfoldable pub head_in1 : List ℕ → Taken Edition
head_in1 [] = refused 43
head_in1 (x ∷ b) = pick (eqb x first_byte) (taken edition1 b) (refused 40)

-- the edition of a log, or none where its head is refused
abbrev pub edition_of : Taken Edition → Option Edition
edition_of (taken v b) = some v
edition_of (refused n) = none

abbrev pub edition_in : List ℕ → Option Edition
edition_in log = edition_of (head_in log)

-- ---- the limits of its fragments: the largest payload, and the most fragments

abbrev pub limits_to : ℕ → ℕ → Limits
limits_to p n = record { payload = p; fragments = n }

abbrev pub limits_of : Edition → Limits
limits_of edition1 = limits_to 262_144 256
limits_of (edition2 limit) = limits_to limit max_fragments

-- a log that is refused at its head has no entries: no fragment is within its limits
abbrev pub limits_or : Option Edition → Limits
limits_or (some v) = limits_of v
limits_or none = limits_to 0 0

abbrev pub limits_in_lem : List ℕ → Limits
limits_in_lem log = limits_or (edition_in log)
