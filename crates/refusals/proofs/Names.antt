-- Equal numbers are one refusal. Assumes nothing.
use Rattle.wire.proofs.Basics.{◌∙◌, sym, ◌≡◌, ap, refl, ℕ, ◌≤◌, lit≤, eqb}
use Rattle.std.proofs.Common.{Result, Ok, Err}
use Rattle.wire.specs.Choice.{pick}
use Rattle.refusals.specs.declared.Refusal.{Refusal}
use Rattle.refusals.specs.declared.Refusal.TheVariants.{TooShort, NotLcm, DatagramTooLong, BadName, FragmentCount, PayloadTooLarge, FragmentForm, Disagrees, WrongMemory, DatagramSize}
use Rattle.refusals.specs.declared.Refusal.TheVariants.{TooManyFragments, NoSuchDatagram, NoRoom, TooManySenders}
use Rattle.refusals.specs.declared.Refusal.TheVariants.{NotLmcp, MessageLength, Checksum, NotABool, UnknownType, EndsInside, TooDeep, NotAscii, LeftOver, OutOfRange}
use Rattle.refusals.specs.declared.Refusal.TheVariants.{UnknownEdition, NotShortest, EntryTooLong, LogCut, IndexFull, LimitTooLarge, NotAnIndex, AnotherLog}
use Rattle.refusals.specs.declared.Refusal.TheVariants.{PacketTooShort, PacketLength, PacketKind, BlocksDoNotFill, NoSuchMessage, NoRoomForPacket}
use Rattle.refusals.specs.declared.Refusal.TheVariants.{TooManyTiles, TooManyPits, TooManyEntries}
use Rattle.refusals.specs.declared.Refusal.TheVariants.{BlockCut, BlockKind, LastBelowFirst, BadBitmap, Padding, DoesNotRise, NoRoomForBlocks, BlocksTooLong}
use Rattle.refusals.specs.Numbers.{number_of}
use Rattle.refusals.specs.Answers.{given}

-- the refusal of a number
abbrev refusal_at : ℕ → Refusal
refusal_at n =
    pick (eqb n 1) TooShort (
    pick (eqb n 2) NotLcm (
    pick (eqb n 3) DatagramTooLong (
    pick (eqb n 4) BadName (
    pick (eqb n 5) FragmentCount (
    pick (eqb n 6) PayloadTooLarge (
    pick (eqb n 7) FragmentForm (
    pick (eqb n 8) Disagrees (
    pick (eqb n 9) WrongMemory (
    pick (eqb n 10) DatagramSize (
    pick (eqb n 11) TooManyFragments (
    pick (eqb n 12) NoSuchDatagram (
    pick (eqb n 13) NoRoom (
    pick (eqb n 14) TooManySenders (
    pick (eqb n 20) NotLmcp (
    pick (eqb n 21) MessageLength (
    pick (eqb n 22) Checksum (
    pick (eqb n 23) NotABool (
    pick (eqb n 24) UnknownType (
    pick (eqb n 25) EndsInside (
    pick (eqb n 26) TooDeep (
    pick (eqb n 27) NotAscii (
    pick (eqb n 28) LeftOver (
    pick (eqb n 29) OutOfRange (
    pick (eqb n 40) UnknownEdition (
    pick (eqb n 41) NotShortest (
    pick (eqb n 42) EntryTooLong (
    pick (eqb n 43) LogCut (
    pick (eqb n 44) IndexFull (
    pick (eqb n 45) LimitTooLarge (
    pick (eqb n 46) NotAnIndex (
    pick (eqb n 47) AnotherLog (
    pick (eqb n 50) PacketTooShort (
    pick (eqb n 51) PacketLength (
    pick (eqb n 52) PacketKind (
    pick (eqb n 53) BlocksDoNotFill (
    pick (eqb n 54) NoSuchMessage (
    pick (eqb n 55) NoRoomForPacket (
    pick (eqb n 60) TooManyTiles (
    pick (eqb n 61) TooManyPits (
    pick (eqb n 62) TooManyEntries (
    pick (eqb n 70) BlockCut (
    pick (eqb n 71) BlockKind (
    pick (eqb n 72) LastBelowFirst (
    pick (eqb n 73) BadBitmap (
    pick (eqb n 74) Padding (
    pick (eqb n 75) DoesNotRise (
    pick (eqb n 76) NoRoomForBlocks (
    BlocksTooLong))))))))))))))))))))))))))))))))))))))))))))))))

number-back : (r : Refusal) → refusal_at (number_of r) ≡ r
number-back TooShort = refl
number-back NotLcm = refl
number-back DatagramTooLong = refl
number-back BadName = refl
number-back FragmentCount = refl
number-back PayloadTooLarge = refl
number-back FragmentForm = refl
number-back Disagrees = refl
number-back WrongMemory = refl
number-back DatagramSize = refl
number-back TooManyFragments = refl
number-back NoSuchDatagram = refl
number-back NoRoom = refl
number-back TooManySenders = refl
number-back NotLmcp = refl
number-back MessageLength = refl
number-back Checksum = refl
number-back NotABool = refl
number-back UnknownType = refl
number-back EndsInside = refl
number-back TooDeep = refl
number-back NotAscii = refl
number-back LeftOver = refl
number-back OutOfRange = refl
number-back UnknownEdition = refl
number-back NotShortest = refl
number-back EntryTooLong = refl
number-back LogCut = refl
number-back IndexFull = refl
number-back LimitTooLarge = refl
number-back NotAnIndex = refl
number-back AnotherLog = refl
number-back PacketTooShort = refl
number-back PacketLength = refl
number-back PacketKind = refl
number-back BlocksDoNotFill = refl
number-back NoSuchMessage = refl
number-back NoRoomForPacket = refl
number-back TooManyTiles = refl
number-back TooManyPits = refl
number-back TooManyEntries = refl
number-back BlockCut = refl
number-back BlockKind = refl
number-back LastBelowFirst = refl
number-back BadBitmap = refl
number-back Padding = refl
number-back DoesNotRise = refl
number-back NoRoomForBlocks = refl
number-back BlocksTooLong = refl

-- no two refusals have one number
pub same_number : (r s : Refusal) → number_of r ≡ number_of s → r ≡ s
same_number r s e = sym (number-back r) ∙ ap refusal_at e ∙ number-back s

-- no refusal has the number 0, which tells of none
pub some_number : (r : Refusal) → 1 ≤ number_of r
some_number TooShort = lit≤ tt
some_number NotLcm = lit≤ tt
some_number DatagramTooLong = lit≤ tt
some_number BadName = lit≤ tt
some_number FragmentCount = lit≤ tt
some_number PayloadTooLarge = lit≤ tt
some_number FragmentForm = lit≤ tt
some_number Disagrees = lit≤ tt
some_number WrongMemory = lit≤ tt
some_number DatagramSize = lit≤ tt
some_number TooManyFragments = lit≤ tt
some_number NoSuchDatagram = lit≤ tt
some_number NoRoom = lit≤ tt
some_number TooManySenders = lit≤ tt
some_number NotLmcp = lit≤ tt
some_number MessageLength = lit≤ tt
some_number Checksum = lit≤ tt
some_number NotABool = lit≤ tt
some_number UnknownType = lit≤ tt
some_number EndsInside = lit≤ tt
some_number TooDeep = lit≤ tt
some_number NotAscii = lit≤ tt
some_number LeftOver = lit≤ tt
some_number OutOfRange = lit≤ tt
some_number UnknownEdition = lit≤ tt
some_number NotShortest = lit≤ tt
some_number EntryTooLong = lit≤ tt
some_number LogCut = lit≤ tt
some_number IndexFull = lit≤ tt
some_number LimitTooLarge = lit≤ tt
some_number NotAnIndex = lit≤ tt
some_number AnotherLog = lit≤ tt
some_number PacketTooShort = lit≤ tt
some_number PacketLength = lit≤ tt
some_number PacketKind = lit≤ tt
some_number BlocksDoNotFill = lit≤ tt
some_number NoSuchMessage = lit≤ tt
some_number NoRoomForPacket = lit≤ tt
some_number TooManyTiles = lit≤ tt
some_number TooManyPits = lit≤ tt
some_number TooManyEntries = lit≤ tt
some_number BlockCut = lit≤ tt
some_number BlockKind = lit≤ tt
some_number LastBelowFirst = lit≤ tt
some_number BadBitmap = lit≤ tt
some_number Padding = lit≤ tt
some_number DoesNotRise = lit≤ tt
some_number NoRoomForBlocks = lit≤ tt
some_number BlocksTooLong = lit≤ tt

-- no two answers say the same in the papers' values
pub same_given : {X : Type 0} (r s : Result X Refusal) → given r ≡ given s → r ≡ s
same_given (Ok x) (Ok y) e = let f : x ≡ y = cc in ap Ok f
same_given (Ok x) (Err s) e = cc
same_given (Err r) (Ok y) e = cc
same_given (Err r) (Err s) e = let f : number_of r ≡ number_of s = cc in ap Err (same_number r s f)
