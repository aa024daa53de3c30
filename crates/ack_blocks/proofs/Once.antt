-- No second answer satisfies a contract of this crate. Assumes nothing.
use Rattle.wire.proofs.Basics.{◌∙◌, sym, ◌≡◌, ap, refl, ℕ, ◌≤◌, Bool, arith}
use Rattle.std.proofs.Common.{Result, Ok, Err}
use Rattle.refusals.specs.declared.Refusal.{Refusal}
use Rattle.refusals.proofs.Names.{same_given}
use Rattle.ack_blocks.specs.declared.Kind.{Kind}
use Rattle.ack_blocks.specs.declared.Kind.TheVariants.{Single, Run, Bitmap}
use Rattle.ack_blocks.specs.Limits.{kind_map}
use Rattle.ack_blocks.specs.Kinds.{byte_of, KindOf}
use Rattle.ack_blocks.specs.Read.{Given, answers}

-- `ask`
pub ask-once : {g : Given Bool} (r s : Result Bool Refusal) → answers r ≡ g → answers s ≡ g → r ≡ s
ask-once r s p q = same_given r s (p ∙ sym q)

-- a kind has one byte, and a byte one kind
one-byte : (x y : Kind) → byte_of x ≡ byte_of y → x ≡ y
one-byte Single Single e = refl
one-byte Run Run e = refl
one-byte Bitmap Bitmap e = refl
one-byte Single Run e = absurd (omega (arith, e))
one-byte Single Bitmap e = absurd (omega (arith, e))
one-byte Run Single e = absurd (omega (arith, e))
one-byte Run Bitmap e = absurd (omega (arith, e))
one-byte Bitmap Single e = absurd (omega (arith, e))
one-byte Bitmap Run e = absurd (omega (arith, e))

byte-small : (x : Kind) → byte_of x ≤ kind_map
byte-small Single = omega arith
byte-small Run = omega arith
byte-small Bitmap = omega arith

pub kind-once : (byte : ℕ) (r s : Result Kind Refusal) → KindOf byte r → KindOf byte s → r ≡ s
kind-once byte (Ok x) (Ok y) p q = ap Ok (one-byte x y (p ∙ sym q))
kind-once byte (Ok x) (Err b) p q = absurd (omega (arith, p, q.1, byte-small x))
kind-once byte (Err a) (Ok y) p q = absurd (omega (arith, q, p.1, byte-small y))
kind-once byte (Err a) (Err b) p q = ap Err (p.0 ∙ sym q.0)
