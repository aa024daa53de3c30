-- A record's answer by its cases. Assumes nothing.
use Rattle.wire.proofs.Basics.{◌≡◌, ℕ, ◌≤◌, ◌<◌, List, length, drop, le-ltb, lt-ltb}
use Rattle.wire.specs.Bytes.{be}
use Rattle.ack_blocks.specs.Read.{refuses, asked}
use Rattle.acks.specs.Lines.{number_length, record_answer}

pub answer-short : (b : List ℕ) → length b < number_length → record_answer b ≡ refuses 70
unfolding record_answer
answer-short b h = rw (lt-ltb (length b) number_length h)

pub answer-whole : (b : List ℕ) → number_length ≤ length b → record_answer b ≡ asked (drop number_length b) (be number_length b)
unfolding record_answer
answer-whole b h = rw (le-ltb (length b) number_length h)
