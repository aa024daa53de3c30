-- The papers' number of each refusal: documents 01 and 02; docs/REFUSALS.md has a row for each. Definitions only.
use Rattle.std.specs.Prelude.{ℕ}
use Rattle.refusals.specs.declared.Refusal.{Refusal}
use Rattle.refusals.specs.declared.Refusal.TheVariants.{TooShort, NotLcm, DatagramTooLong, BadName, FragmentCount, PayloadTooLarge, FragmentForm, Disagrees, WrongMemory, DatagramSize}
use Rattle.refusals.specs.declared.Refusal.TheVariants.{TooManyFragments, NoSuchDatagram, NoRoom, TooManySenders}
use Rattle.refusals.specs.declared.Refusal.TheVariants.{NotLmcp, MessageLength, Checksum, NotABool, UnknownType, EndsInside, TooDeep, NotAscii, LeftOver, OutOfRange}
use Rattle.refusals.specs.declared.Refusal.TheVariants.{UnknownEdition, NotShortest, EntryTooLong, LogCut, IndexFull, LimitTooLarge, NotAnIndex, AnotherLog}
use Rattle.refusals.specs.declared.Refusal.TheVariants.{PacketTooShort, PacketLength, PacketKind, BlocksDoNotFill, NoSuchMessage, NoRoomForPacket}
use Rattle.refusals.specs.declared.Refusal.TheVariants.{TooManyTiles, TooManyPits, TooManyEntries}
use Rattle.refusals.specs.declared.Refusal.TheVariants.{BlockCut, BlockKind, LastBelowFirst, BadBitmap, Padding, DoesNotRise, NoRoomForBlocks, BlocksTooLong}

abbrev pub number_of : Refusal → ℕ
number_of TooShort = 1
number_of NotLcm = 2
number_of DatagramTooLong = 3
number_of BadName = 4
number_of FragmentCount = 5
number_of PayloadTooLarge = 6
number_of FragmentForm = 7
number_of Disagrees = 8
number_of WrongMemory = 9
number_of DatagramSize = 10
number_of TooManyFragments = 11
number_of NoSuchDatagram = 12
number_of NoRoom = 13
number_of TooManySenders = 14
number_of NotLmcp = 20
number_of MessageLength = 21
number_of Checksum = 22
number_of NotABool = 23
number_of UnknownType = 24
number_of EndsInside = 25
number_of TooDeep = 26
number_of NotAscii = 27
number_of LeftOver = 28
number_of OutOfRange = 29
number_of UnknownEdition = 40
number_of NotShortest = 41
number_of EntryTooLong = 42
number_of LogCut = 43
number_of IndexFull = 44
number_of LimitTooLarge = 45
number_of NotAnIndex = 46
number_of AnotherLog = 47
number_of PacketTooShort = 50
number_of PacketLength = 51
number_of PacketKind = 52
number_of BlocksDoNotFill = 53
number_of NoSuchMessage = 54
number_of NoRoomForPacket = 55
number_of TooManyTiles = 60
number_of TooManyPits = 61
number_of TooManyEntries = 62
number_of BlockCut = 70
number_of BlockKind = 71
number_of LastBelowFirst = 72
number_of BadBitmap = 73
number_of Padding = 74
number_of DoesNotRise = 75
number_of NoRoomForBlocks = 76
number_of BlocksTooLong = 77
