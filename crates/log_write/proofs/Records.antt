-- A record of the input is one entry of the log, and no longer than a log takes. Assumes nothing.
use Rattle.wire.proofs.Basics.{◌∙◌, sym, ◌≡◌, ap, refl, subst, ℕ, ◌≤◌, ◌+◌, ◌<◌, ◌-◌, List, [], ◌++◌, Bool, length, drop, take, length-take, take-append-drop, length-take-le, slice, drop-append-le}
use Rattle.wire.proofs.Basics.{le-ltb, arith}
use lib.Seq.{length-slice}
use Rattle.wire.specs.Bytes.{Bytes}
use Rattle.wire.specs.Choice.{pick}
use Rattle.wire.proofs.Numbers.{be-lt, drop-bytes}
use Rattle.datagram.specs.Limits.{max_payload, max_datagram}
use Rattle.stream.specs.declared.Kind.TheVariants.{Entry}
use Rattle.stream.specs.declared.Input.{Input}
use Rattle.stream.specs.Records.{Next, Record, body_length_lem, unread, Took, Gives}
use Rattle.stream.proofs.Taking.{body-front}
use Rattle.output.specs.Output.{line_limit, Pours, WrittenOut, Finishes}
use Rattle.output.proofs.Sending.{pours-none, pours-put, finishes-then, finishes-is}
use Rattle.record_lines.specs.Streams.{Stream, ended, cut, also, many, records_in}
use Rattle.record_lines.specs.Lines.{lines_after, Tells}
use Rattle.record_lines.proofs.Streams.{sized}
use Rattle.flight_log.specs.Editions.{edition2, head_bytes}
use Rattle.flight_log.specs.Entries.{entry_bytes, body_of, log_of}
use Rattle.log_append.specs.Writes.{Answer, wrote, refused, says, begin_answer, output, Began}
use Rattle.std.proofs.Common.{Result, Ok, Err}
use Rattle.refusals.specs.declared.Refusal.{Refusal}
use Rattle.refusals.specs.Numbers.{number_of}
use Rattle.log_append.proofs.Writing.{seven-most}
use Rattle.log_write.specs.Kept.{entry_in, entries_of, log_text}
use Rattle.log_write.specs.Inside.{says as tells, entries_text}

-- ---- a 2-byte length is at most 65,535

module _ {b c : List ℕ} {i left : Input} {at len : ℕ} (h : Bytes c) (t : Took Entry b i c at len left) where
  x : List ℕ
  x = unread b i ++ t.came

  head : List ℕ
  head = slice (at - 18) at c

  head-long : length head ≡ 18
  unfolding head
  head-long = length-slice (at - 18) at c (omega (arith, t.within)) ∙ (let z : at - (at - 18) ≡ 18 = omega (arith, t.headed) in z)

  of-head : body_length_lem Entry x ≡ body_length_lem Entry head
  unfolding x head
  of-head =
      let z = sized Entry (unread b i ++ t.came) t.whole in
      let l : length (take 18 (unread b i ++ t.came)) ≡ 18 = length-take-le 18 (unread b i ++ t.came) z.head in
      ap (body_length_lem Entry) (sym (take-append-drop 18 (unread b i ++ t.came)))
      ∙ body-front Entry (take 18 (unread b i ++ t.came)) (drop 18 (unread b i ++ t.came)) (omega (arith, l))
      ∙ ap (body_length_lem Entry) (sym t.head)

  in_buffer : body_length_lem Entry (drop (at - 18) c) ≡ body_length_lem Entry head
  unfolding head
  in_buffer =
      let l : length (take at c) ≡ at = length-take-le at c (omega (arith, t.within)) in
      ap (λ (y : List ℕ). body_length_lem Entry (drop (at - 18) y)) (sym (take-append-drop at c))
      ∙ ap (body_length_lem Entry) (drop-append-le (at - 18) (take at c) (drop at c) (omega (arith, l)))
      ∙ body-front Entry (slice (at - 18) at c) (drop at c) (omega (arith, head-long))

  few : body_length_lem Entry (drop (at - 18) c) < 65536
  unfolding body_length_lem
  few = omega (arith, be-lt 2 (drop 16 (drop (at - 18) c)) (drop-bytes (drop (at - 18) c) 16 (drop-bytes c (at - 18) h)))

  pub took-few : len ≤ max_datagram
  unfolding x
  took-few = omega (arith, t.size, of-head, in_buffer, few)

-- so of the part of the buffer that holds it
pub short-part : (b c : List ℕ) (i : Input) {d : List ℕ} {left : Input} {at len : ℕ} {next : Next} → Bytes c → Gives Entry b i c next → next ≡ Record at len left → d ≡ take len (drop at c)
    → length d ≤ max_datagram
short-part b c i {d} {left} {at} {len} h g e p = omega (arith, took-few h (subst (Gives Entry b i c) e g), ap length p, length-take len (drop at c))

-- ---- the head, and the entries behind it

entries-body : (n : ℕ) (xs : Stream) → lines_after tells n tt xs ≡ body_of (entries_of xs)
unfolding body_of
entries-body n ended = refl
entries-body n cut = refl
entries-body n (also y ys) = ap (λ (l : List ℕ). entry_bytes (entry_in y) ++ l) (entries-body (n + 1) ys)

pub log-made : (xs : Stream) → head_bytes (edition2 max_payload) ++ entries_text xs ≡ log_text xs
unfolding log_of
log-made xs = ap (λ (l : List ℕ). head_bytes (edition2 max_payload) ++ l) (entries-body 0 xs)

-- all that stands before a place is written out
pub finishes-out : {out : List ℕ} {at : ℕ} {r : Bool} → WrittenOut at r → Finishes out at [] out r
finishes-out {out} {at} w = record { end = at; poured = pours-none out at; told = w }

-- ---- the log is begun

module _ (out : List ℕ) (r : Result ℕ Refusal) (out' : List ℕ) (room : line_limit ≤ length out) (b : Began out max_payload r out') where
  abbrev head-text : List ℕ
  head-text = head_bytes (edition2 max_payload)

  short : 0 + length head-text ≤ length out
  short = omega (arith, seven-most max_payload)

  begins : begin_answer (length out) max_payload ≡ wrote (0 + length head-text)
  unfolding begin_answer
  begins = ap (λ (t : Bool). pick t (refused 13) (wrote (0 + length head-text))) (le-ltb (length out) (0 + length head-text) short)

  pub begun-never : (k : Refusal) → r ≡ Err k → ⊥
  begun-never k q =
      let z : refused (number_of k) ≡ wrote (0 + length head-text) = sym (ap says q) ∙ b.answer ∙ begins in
      let y : ◌≡◌ {A = ℕ} 0 1 = cc in
      omega arith

  pub begun_pours : (first : ℕ) → r ≡ Ok first → Pours out 0 (head_bytes (edition2 max_payload)) out' first
  begun_pours first q =
      let a : says r ≡ wrote (0 + length head-text) = b.answer ∙ begins in
      let z : wrote first ≡ wrote (0 + length head-text) = sym (ap says q) ∙ a in
      let f : first ≡ 0 + length head-text = cc in
      let l = short in
      pours-put short (record { wrote = b.left ∙ ap (λ (s : Answer). output s out 0 head-text) a; next = omega (arith, l, f) })

-- what was told behind the head is the log
pub made_tells : {buf out mid out' : List ℕ} {i : Input} {first : ℕ} {r : Bool} → Pours out 0 (head_bytes (edition2 max_payload)) mid first
    → Tells Entry entries_text buf i (record { before = mid; after = out' }) first r → Tells Entry log_text buf i (record { before = out; after = out' }) 0 r
made_tells {buf} {out} {mid} {out'} {i} p t =
    record { came = t.came; said = finishes-is (finishes-then p t.said) (log-made (records_in many Entry (length buf) (unread buf i ++ t.came))) }
