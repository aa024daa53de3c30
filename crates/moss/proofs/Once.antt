-- No second answer satisfies a contract of this crate. `message`, `session_at` and the letter of a type say `r ≡ definition inputs`: wire's one_answer is their
-- theorem. Assumes nothing.
use Rattle.wire.proofs.Basics.{◌∙◌, sym, ◌≡◌, ap, refl, ℕ, true, false, Bool, arith}
use Rattle.std.proofs.Common.{Result, Ok, Err}
use Rattle.refusals.specs.declared.Refusal.{Refusal}
use Rattle.refusals.specs.declared.Refusal.TheVariants.{TooShort, NotLcm, DatagramTooLong, BadName, FragmentCount, PayloadTooLarge, FragmentForm, Disagrees, WrongMemory, DatagramSize}
use Rattle.refusals.specs.declared.Refusal.TheVariants.{TooManyFragments, NoSuchDatagram, NoRoom, TooManySenders}
use Rattle.refusals.specs.declared.Refusal.TheVariants.{NotLmcp, MessageLength, Checksum, NotABool, UnknownType, EndsInside, TooDeep, NotAscii, LeftOver, OutOfRange}
use Rattle.refusals.specs.declared.Refusal.TheVariants.{UnknownEdition, NotShortest, EntryTooLong, LogCut, IndexFull, LimitTooLarge, NotAnIndex, AnotherLog}
use Rattle.refusals.specs.declared.Refusal.TheVariants.{PacketTooShort, PacketLength, PacketKind, BlocksDoNotFill, NoSuchMessage, NoRoomForPacket}
use Rattle.refusals.specs.declared.Refusal.TheVariants.{TooManyTiles, TooManyPits, TooManyEntries}
use Rattle.refusals.specs.declared.Refusal.TheVariants.{BlockCut, BlockKind, LastBelowFirst, BadBitmap, Padding, DoesNotRise, NoRoomForBlocks, BlocksTooLong}
use Rattle.refusals.specs.Numbers.{number_of}
use Rattle.refusals.proofs.Names.{same_number}
use Rattle.moss.specs.Packet.{Given, known_kind}
use Rattle.moss.specs.Message.{Part}
use Rattle.moss.specs.Answers.{Header, said, letter_of, part_of, KindOf, reads, locates, faults}
use Rattle.moss.specs.declared.Header as code
use Rattle.moss.specs.declared.Kind.{Kind}
use Rattle.moss.specs.declared.Place.{Place}
use Rattle.moss.proofs.Faults.{known-letter, one-letter}

same-said : (x y : code.Header) → said x ≡ said y → x ≡ y
same-said x y e =
    let k = one-letter x.kind y.kind (ap (λ (h : Header). h.kind) e) in
    λ i. record { session = (e i).session; sequence = (e i).sequence; kind = k i; count = (e i).count }

same-reads : (r s : Result code.Header Refusal) → reads r ≡ reads s → r ≡ s
same-reads (Ok x) (Ok y) e = let f : said x ≡ said y = cc in ap Ok (same-said x y f)
same-reads (Ok x) (Err b) e = cc
same-reads (Err a) (Ok y) e = cc
same-reads (Err a) (Err b) e = let f : number_of a ≡ number_of b = cc in ap Err (same_number a b f)

unknown : (kind : Kind) → known_kind (letter_of kind) ≡ false → ⊥
unknown kind e = let z : ◌≡◌ {A = Bool} true false = sym (known-letter kind) ∙ e in cc

-- `read_packet`
pub read-once : {g : Given Header} (r s : Result code.Header Refusal) → reads r ≡ g → reads s ≡ g → r ≡ s
read-once r s p q = same-reads r s (p ∙ sym q)

same-place : (x y : Place) → part_of x ≡ part_of y → x ≡ y
same-place x y e = λ i. record { at = (e i).at; len = (e i).len }

same-locates : (r s : Result Place Refusal) → locates r ≡ locates s → r ≡ s
same-locates (Ok x) (Ok y) e = let f : part_of x ≡ part_of y = cc in ap Ok (same-place x y f)
same-locates (Ok x) (Err b) e = cc
same-locates (Err a) (Ok y) e = cc
same-locates (Err a) (Err b) e = let f : number_of a ≡ number_of b = cc in ap Err (same_number a b f)

-- `message_place`
pub place-once : {g : Given Part} (r s : Result Place Refusal) → locates r ≡ g → locates s ≡ g → r ≡ s
place-once r s p q = same-locates r s (p ∙ sym q)

-- no refusal is 0
pub some-number : (a : Refusal) → number_of a ≡ 0 → ⊥
some-number TooShort e = absurd (omega (arith, e))
some-number NotLcm e = absurd (omega (arith, e))
some-number DatagramTooLong e = absurd (omega (arith, e))
some-number BadName e = absurd (omega (arith, e))
some-number FragmentCount e = absurd (omega (arith, e))
some-number PayloadTooLarge e = absurd (omega (arith, e))
some-number FragmentForm e = absurd (omega (arith, e))
some-number Disagrees e = absurd (omega (arith, e))
some-number WrongMemory e = absurd (omega (arith, e))
some-number DatagramSize e = absurd (omega (arith, e))
some-number TooManyFragments e = absurd (omega (arith, e))
some-number NoSuchDatagram e = absurd (omega (arith, e))
some-number NoRoom e = absurd (omega (arith, e))
some-number TooManySenders e = absurd (omega (arith, e))
some-number NotLmcp e = absurd (omega (arith, e))
some-number MessageLength e = absurd (omega (arith, e))
some-number Checksum e = absurd (omega (arith, e))
some-number NotABool e = absurd (omega (arith, e))
some-number UnknownType e = absurd (omega (arith, e))
some-number EndsInside e = absurd (omega (arith, e))
some-number TooDeep e = absurd (omega (arith, e))
some-number NotAscii e = absurd (omega (arith, e))
some-number LeftOver e = absurd (omega (arith, e))
some-number OutOfRange e = absurd (omega (arith, e))
some-number UnknownEdition e = absurd (omega (arith, e))
some-number NotShortest e = absurd (omega (arith, e))
some-number EntryTooLong e = absurd (omega (arith, e))
some-number LogCut e = absurd (omega (arith, e))
some-number IndexFull e = absurd (omega (arith, e))
some-number LimitTooLarge e = absurd (omega (arith, e))
some-number NotAnIndex e = absurd (omega (arith, e))
some-number AnotherLog e = absurd (omega (arith, e))
some-number PacketTooShort e = absurd (omega (arith, e))
some-number PacketLength e = absurd (omega (arith, e))
some-number PacketKind e = absurd (omega (arith, e))
some-number BlocksDoNotFill e = absurd (omega (arith, e))
some-number NoSuchMessage e = absurd (omega (arith, e))
some-number NoRoomForPacket e = absurd (omega (arith, e))
some-number TooManyTiles e = absurd (omega (arith, e))
some-number TooManyPits e = absurd (omega (arith, e))
some-number TooManyEntries e = absurd (omega (arith, e))
some-number BlockCut e = absurd (omega (arith, e))
some-number BlockKind e = absurd (omega (arith, e))
some-number LastBelowFirst e = absurd (omega (arith, e))
some-number BadBitmap e = absurd (omega (arith, e))
some-number Padding e = absurd (omega (arith, e))
some-number DoesNotRise e = absurd (omega (arith, e))
some-number NoRoomForBlocks e = absurd (omega (arith, e))
some-number BlocksTooLong e = absurd (omega (arith, e))

same-faults : (r s : Result (Unit {0}) Refusal) → faults r ≡ faults s → r ≡ s
same-faults (Ok x) (Ok y) e = refl
same-faults (Ok x) (Err b) e = absurd (some-number b (sym e))
same-faults (Err a) (Ok y) e = absurd (some-number a e)
same-faults (Err a) (Err b) e = ap Err (same_number a b e)

-- `block_fault`
pub fault-once : {n : ℕ} (r s : Result (Unit {0}) Refusal) → faults r ≡ n → faults s ≡ n → r ≡ s
fault-once r s p q = same-faults r s (p ∙ sym q)

-- the type of a letter
pub kind-once : (letter : ℕ) (r s : Result Kind Refusal) → KindOf letter r → KindOf letter s → r ≡ s
kind-once letter (Ok x) (Ok y) p q = ap Ok (one-letter x y (p ∙ sym q))
kind-once letter (Ok x) (Err b) p q = absurd (unknown x (ap known_kind p ∙ q.1))
kind-once letter (Err a) (Ok y) p q = absurd (unknown y (ap known_kind q ∙ p.1))
kind-once letter (Err a) (Err b) p q = ap Err (p.0 ∙ sym q.0)
