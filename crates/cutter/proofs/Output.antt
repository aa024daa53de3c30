-- What the cutter leaves in the output reads back as what it was cut from. Assumes nothing.
use Rattle.wire.proofs.Basics.{◌∙◌, sym, ◌≡◌, ap, refl, ℕ, ◌≤◌, ◌+◌, ◌<◌, ◌-◌, ◌^◌, min, List, [], ◌++◌, true, false, Bool, length, drop, take, length-append, take-append_seam, eqb, arith}
use Rattle.wire.specs.Bytes.{bytes}
use Rattle.wire.proofs.Numbers.{length-bytes}
use Rattle.wire.proofs.Overlays.{overlay-eq}
use Rattle.datagram.specs.Limits.{max_payload, max_fragments}
use Rattle.wire.specs.Choice.{pick}
use Rattle.datagram.specs.Said.{name_in, payload_in, said}
use Rattle.parts.specs.Parts.{name_of, payload_of}
use Rattle.parts.proofs.Parts.{name-said, payload-said}
use Rattle.cutter.specs.Cut.{is_small, carries, begins_at_lem, count_of, length_of, small_bytes, fragment_bytes, datagram_of, CutTo}
use Rattle.cutter.specs.Trip.{Cuttable, cut_said}
use Rattle.std.proofs.Common.{Ok}
use Rattle.cutter.proofs.Written.{length-head}
use Rattle.cutter.proofs.Sizes.{Done, made}
use Rattle.cutter.proofs.Counts.{piece-length}
use Rattle.cutter.proofs.Trips.{cut-said}

-- the length that is answered is that of the datagram
pub length-datagram : (q : ℕ) (name payload : List ℕ) (m k : ℕ) → length (datagram_of q name payload m k) ≡ length_of (length name) (length payload) m k
unfolding datagram_of length_of small_bytes fragment_bytes
length-datagram q name payload m k = go (is_small (length name) (length payload) m)
  where
    c : ℕ
    c = length name

    n : ℕ
    n = count_of (length name) (length payload) m

    part : (b : Bool) → length (pick b (name ++ bytes 1 0) []) ≡ pick b (1 + length name) 0
    part true = length-append name (bytes 1 0) ∙ rw (length-bytes 1 0) (omega arith)
    part false = refl

    sum : (b : Bool) → 20 + pick b (1 + length name) 0 ≡ pick b (21 + length name) 20
    sum true = omega arith
    sum false = refl

    go : (b : Bool) → length (pick b (small_bytes q name payload) (fragment_bytes q name payload m k n))
        ≡ pick b (9 + length name + length payload) (pick (eqb k 0) (21 + length name) 20 + min (carries (length name) m k) (length payload - begins_at_lem (length name) m k))
    go true = simp (length-append, length-bytes) (omega arith)
    go false = simp (length-append, length-head, piece-length) (rw (part (eqb k 0), sum (eqb k 0)) refl)

-- what a call that made a datagram left
module _ (name payload : List ℕ) (q m index : ℕ) (out : List ℕ) (n l : ℕ) (out' : List ℕ) (fits : q < 2 ^ 32) (k : CutTo name payload q m index out (Ok (record { count = n; len = l })) out') where
  done : Done name payload m index (length out) n l
  done = made name payload m index (length out) n l (sym k.answer)

  pub cuttable : Cuttable max_payload max_fragments q name payload m
  cuttable =
      let few' : count_of (length name) (length payload) m ≤ max_fragments = rw (← done.plan.count) done.plan.few in
      record {
        sequence = fits;
        named = done.named;
        sized = done.sized';
        limited = done.plan.limited;
        numbered = omega (arith, done.plan.limited);
        few = few';
        counted = omega arith;
      }

  -- the first l bytes of the output are the datagram that was asked for
  pub cut-bytes : take l out' ≡ datagram_of q name payload m index
  cut-bytes =
      let d : List ℕ = datagram_of q name payload m index in
      let e : length d ≡ l = length-datagram q name payload m index ∙ sym done.plan.len in
      let o : out' ≡ d ++ drop (0 + length d) out = k.output ∙ overlay-eq out 0 d (omega (arith, done.plan.fits)) in
      rw (o, ← e) (take-append_seam d (drop (0 + length d) out))

  -- and they say what they were cut from
  pub cut-reads : said max_payload max_fragments (take l out') ≡ cut_said q name payload m index
  cut-reads =
      ap (said max_payload max_fragments) cut-bytes
      ∙ cut-said max_payload max_fragments q name payload m cuttable index (rw (← done.plan.count) done.plan.asked)

  -- so `name_part` and `payload_part` of it give the name (in fragment 0; else none) and its own part of the payload
  pub cut-name : name_of (take l out') ≡ name_in (cut_said q name payload m index)
  cut-name = name-said (take l out') ∙ ap name_in cut-reads

  pub cut-payload : payload_of (take l out') ≡ payload_in (cut_said q name payload m index)
  cut-payload = payload-said (take l out') ∙ ap payload_in cut-reads
