-- What stands against a list, by its number: none is 0. Assumes nothing.
use Rattle.wire.proofs.Basics.{◌≡◌, refl, ◌<◌, arith}
use Rattle.std.proofs.Common.{Result, Ok, Err}
use Rattle.refusals.specs.declared.Refusal.{Refusal}
use Rattle.refusals.specs.declared.Refusal.TheVariants.{TooShort, NotLcm, DatagramTooLong, BadName, FragmentCount, PayloadTooLarge, FragmentForm, Disagrees, WrongMemory, DatagramSize}
use Rattle.refusals.specs.declared.Refusal.TheVariants.{TooManyFragments, NoSuchDatagram, NoRoom, TooManySenders}
use Rattle.refusals.specs.declared.Refusal.TheVariants.{NotLmcp, MessageLength, Checksum, NotABool, UnknownType, EndsInside, TooDeep, NotAscii, LeftOver, OutOfRange}
use Rattle.refusals.specs.declared.Refusal.TheVariants.{UnknownEdition, NotShortest, EntryTooLong, LogCut, IndexFull, LimitTooLarge, NotAnIndex, AnotherLog}
use Rattle.refusals.specs.declared.Refusal.TheVariants.{PacketTooShort, PacketLength, PacketKind, BlocksDoNotFill, NoSuchMessage, NoRoomForPacket}
use Rattle.refusals.specs.declared.Refusal.TheVariants.{TooManyTiles, TooManyPits, TooManyEntries}
use Rattle.refusals.specs.declared.Refusal.TheVariants.{BlockCut, BlockKind, LastBelowFirst, BadBitmap, Padding, DoesNotRise, NoRoomForBlocks, BlocksTooLong}
use Rattle.refusals.specs.Numbers.{number_of}
use Rattle.stretch.specs.InsideTold.{fault_told}

some : (r : Refusal) → 0 < number_of r
some TooShort = omega arith
some NotLcm = omega arith
some DatagramTooLong = omega arith
some BadName = omega arith
some FragmentCount = omega arith
some PayloadTooLarge = omega arith
some FragmentForm = omega arith
some Disagrees = omega arith
some WrongMemory = omega arith
some DatagramSize = omega arith
some TooManyFragments = omega arith
some NoSuchDatagram = omega arith
some NoRoom = omega arith
some TooManySenders = omega arith
some NotLmcp = omega arith
some MessageLength = omega arith
some Checksum = omega arith
some NotABool = omega arith
some UnknownType = omega arith
some EndsInside = omega arith
some TooDeep = omega arith
some NotAscii = omega arith
some LeftOver = omega arith
some OutOfRange = omega arith
some UnknownEdition = omega arith
some NotShortest = omega arith
some EntryTooLong = omega arith
some LogCut = omega arith
some IndexFull = omega arith
some LimitTooLarge = omega arith
some NotAnIndex = omega arith
some AnotherLog = omega arith
some PacketTooShort = omega arith
some PacketLength = omega arith
some PacketKind = omega arith
some BlocksDoNotFill = omega arith
some NoSuchMessage = omega arith
some NoRoomForPacket = omega arith
some TooManyTiles = omega arith
some TooManyPits = omega arith
some TooManyEntries = omega arith
some BlockCut = omega arith
some BlockKind = omega arith
some LastBelowFirst = omega arith
some BadBitmap = omega arith
some Padding = omega arith
some DoesNotRise = omega arith
some NoRoomForBlocks = omega arith
some BlocksTooLong = omega arith

pub no_zero : (r : Refusal) → number_of r ≡ 0 → ⊥
no_zero r e = let s = some r in omega arith

pub none-told : (x : Result (Unit {0}) Refusal) → ((r : Refusal) → x ≡ Err r → ⊥) → fault_told x ≡ 0
none-told (Ok u) f = refl
none-told (Err r) f = absurd (f r refl)
