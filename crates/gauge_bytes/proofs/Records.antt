-- A record's answer by its cases, and the packet that was written. Assumes nothing.
use Rattle.wire.proofs.Basics.{◌∙◌, sym, ◌≡◌, ap, subst, ℕ, ◌≤◌, ◌+◌, ◌<◌, ◌^◌, List, ◌++◌, length, drop, get_or, take, replicate, length-take-le, take_at, le-ltb, lt-ltb, arith}
use Rattle.wire.specs.Bytes.{be, Bytes}
use Rattle.wire.specs.Overlay.{overlay}
use Rattle.wire.proofs.Overlays.{overlay-eq, overlay-all}
use Rattle.wire.proofs.Numbers.{be-lt, drop-bytes}
use Rattle.moss.specs.Limits.{session_length, max_packet}
use Rattle.moss.specs.Packet.{Given, gives, refuses}
use Rattle.moss_writer.specs.Write.{writes}
use Rattle.moss_writer.specs.Write.{packet_bytes, written_of, output_of, WritesPacket}
use Rattle.std.proofs.Common.{Result, Ok, Err}
use Rattle.refusals.specs.declared.Refusal.{Refusal}
use Rattle.refusals.specs.Numbers.{number_of}
use Rattle.moss_writer.proofs.Plans.{Makes, written_makes}
use Rattle.moss_writer.proofs.Trips.{packet-length}
use Rattle.text.specs.Text.{decimal}
use Rattle.gauge_bytes.specs.Lines.{record_head, record_bytes, record_answer, answer_text, line}

pub answer-short : (b : List ℕ) → length b < record_head → record_answer b ≡ refuses 50
unfolding record_answer
answer-short b h = rw (lt-ltb (length b) record_head h)

pub answer-whole : (b : List ℕ) → record_head ≤ length b → record_answer b ≡ written_of (get_or b 14 0) (drop record_head b) max_packet
unfolding record_answer
answer-whole b h = rw (le-ltb (length b) record_head h)

-- ten bytes taken by value
pub session-front : (b : List ℕ) → record_head ≤ length b → overlay (replicate session_length 0) 0 b ≡ take session_length b
session-front b h = overlay-all (replicate session_length 0) b (omega arith)

-- what the writer left at the start of the output is the record's packet
module _ (b out : List ℕ) (n : ℕ) (out' : List ℕ) (whole : record_head ≤ length b) (counter : be 4 (drop 10 b) < 2 ^ 32) (byte : get_or b 14 0 < 256)
    (w : WritesPacket (take session_length b) (be 4 (drop 10 b)) (get_or b 14 0) (drop record_head b) out (Ok n) out') where
  pub record-written : take n out' ≡ record_bytes b
  unfolding record_bytes
  record-written =
      let s : List ℕ = take session_length b in
      let q : ℕ = be 4 (drop 10 b) in
      let k : ℕ = get_or b 14 0 in
      let blocks : List ℕ = drop record_head b in
      let m : Makes k blocks (length out) n = written_makes k blocks (length out) n (sym w.answer) in
      let p : List ℕ = packet_bytes s q k blocks in
      let ten : length s ≡ session_length = length-take-le session_length b (omega arith) in
      let l : length p ≡ n = packet-length s q k blocks ten counter byte ∙ sym m.long in
      let o : out' ≡ p ++ drop (0 + length p) out =
      w.output ∙ ap (λ (g : Given ℕ). output_of g out 0 p) (sym w.answer) ∙ overlay-eq out 0 p (omega (arith, m.room')) in
      ap (take n) o ∙ take_at p (drop (0 + length p) out) n l

-- ---- the line of a record that is whole

module _ (n : ℕ) (b out out' session blocks : List ℕ) (sequence : ℕ) (r : Result ℕ Refusal) (all : Bytes b) (whole : record_head ≤ length b) (room : length out ≡ max_packet)
    (es : session ≡ take session_length b) (eq : sequence ≡ be 4 (drop 10 b)) (eb : blocks ≡ drop record_head b)
    (w : WritesPacket session sequence (get_or b 14 0) blocks out r out') where
  moved : WritesPacket (take session_length b) (be 4 (drop 10 b)) (get_or b 14 0) (drop record_head b) out r out'
  moved =
      subst (λ (x : List ℕ). WritesPacket x (be 4 (drop 10 b)) (get_or b 14 0) (drop record_head b) out r out') es
      (subst (λ (x : ℕ). WritesPacket session x (get_or b 14 0) (drop record_head b) out r out') eq
      (subst (λ (x : List ℕ). WritesPacket session sequence (get_or b 14 0) x out r out') eb w))

  answered : record_answer b ≡ writes r
  answered = answer-whole b whole ∙ ap (written_of (get_or b 14 0) (drop record_head b)) (sym room) ∙ sym moved.answer

  pub line_refused : (k : Refusal) → r ≡ Err k → decimal n ++ answer_text (refuses (number_of k)) (record_bytes b) ≡ line n b
  line_refused k e = ap (λ (g : Given ℕ). decimal n ++ answer_text g (record_bytes b)) (sym (answered ∙ ap writes e))

  pub line-bytes : (k : ℕ) → r ≡ Ok k → decimal n ++ answer_text (gives k) (take k out') ≡ line n b
  line-bytes k e =
      let v = subst (λ (x : Result ℕ Refusal). WritesPacket (take session_length b) (be 4 (drop 10 b)) (get_or b 14 0) (drop record_head b) out x out') e moved in
      let h : be 4 (drop 10 b) < 2 ^ 32 = omega (arith, be-lt 4 (drop 10 b) (drop-bytes b 10 all)) in
      ap (λ (x : List ℕ). decimal n ++ answer_text (gives k) x) (record-written b out k out' whole h (all 14) v)
      ∙ ap (λ (g : Given ℕ). decimal n ++ answer_text g (record_bytes b)) (sym (answered ∙ ap writes e))
