-- What the writer answers, and the bytes that it left, are said as the list's own line. Assumes nothing.
use Rattle.wire.proofs.Basics.{◌∙◌, ◌≡◌, ap, refl, ℕ, ◌≤◌, ◌+◌, ◌<◌, ◌/◌, List, true, false, Bool, length, leb, le-ltb, lt-ltb, leb-true, arith}
use Rattle.wire.specs.Choice.{pick}
use Rattle.wire.specs.Overlay.{overlay}
use Rattle.wire.proofs.Overlays.{overlay-at}
use Rattle.lmcp.specs.Made.{Made, Bytes, Refused}
use Rattle.lmcp.specs.Run.{got, refused}
use Rattle.lmcp.specs.Write.{Write}
use Rattle.lmcp.specs.Message.{made, written, WrittenTo}
use Rattle.lmcp.specs.Lists.{write_list}
use Rattle.lmcp_bytes.specs.Lines.{numbers_of, longer_text, bytes_text, refused_text, write_text, list_text}
use Rattle.lmcp_bytes.specs.Inside.{made_text}

-- the front of the output is the message
text-made : (x : Write) (out : List ℕ) → made_text (written x out) (made x (length out)) ≡ write_text (length out) x
unfolding made written
text-made (got m rest) out = by (leb (length m) (length out)) refl
  where
    by : (t : Bool) → leb (length m) (length out) ≡ t
        → made_text (pick t (overlay out 0 m) out) (pick t (Bytes (length m)) (Refused 13)) ≡ pick t (bytes_text m) (refused_text 13)
    by true h = ap bytes_text (overlay-at out 0 m (let z : 0 + length m ≤ length out = omega (arith, leb-true (length m) (length out) h) in z))
    by false h = refl
text-made (refused number) out = refl

module _ (most room : ℕ) (calculate : Bool) (body : List ℕ) where
  pub text_longer : most < length body / 8 → longer_text most ≡ list_text most room calculate body
  text_longer h = rw (lt-ltb most (length body / 8) h)

  written-text : length body / 8 ≤ most → write_text room (write_list calculate (numbers_of (length body / 8) body)) ≡ list_text most room calculate body
  written-text h = rw (le-ltb most (length body / 8) h)

pub text-written : (most : ℕ) (calculate : Bool) (body bytes bytes' : List ℕ) (m : Made) → length body / 8 ≤ most
    → WrittenTo (write_list calculate (numbers_of (length body / 8) body)) bytes m bytes' → made_text bytes' m ≡ list_text most (length bytes) calculate body
text-written most calculate body bytes bytes' m h w =
    (λ j. made_text (w.left j) (w.gave j))
    ∙ text-made (write_list calculate (numbers_of (length body / 8) body)) bytes
    ∙ written-text most (length bytes) calculate body h
