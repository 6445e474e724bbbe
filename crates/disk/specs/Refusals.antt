-- 01, "Refusal numbers, in the order they are tried", and 02, No. 1, 5, 8, 11 and 12: the number of each case of the refusal enum.
use Rattle.std.specs.Prelude.{ℕ, Result, Ok, Err}
use Rattle.disk.specs.declared.Refusal.{Refusal}
use Rattle.disk.specs.declared.Refusal.TheVariants.{ImageSize, TableSize, DiskType, RootBlock, AnodeBlock, FixedAnode, AnodeRange, ChainLinks, FreeList, TwoOwners, NoOwner, DirectoryBlock, EntryAnode, NamedTwice, FileSize, UnnamedChain, NamesAlike, BadArgument, NoDirectory, NotFound, AlreadyThere, IsDirectory, NotEmpty, PastEnd, NoFreeBlock, NoFreeAnode, ReportFull, ShortWriteList, BitmapSize, SettingsForm, LongSeconds, ShortOutput}

-- one number for each case
abbrev pub number_of : Refusal → ℕ
number_of ImageSize = 1
number_of TableSize = 2
number_of DiskType = 3
number_of RootBlock = 4
number_of AnodeBlock = 5
number_of FixedAnode = 6
number_of AnodeRange = 7
number_of ChainLinks = 8
number_of FreeList = 9
number_of TwoOwners = 10
number_of NoOwner = 11
number_of DirectoryBlock = 12
number_of EntryAnode = 13
number_of NamedTwice = 14
number_of FileSize = 15
number_of UnnamedChain = 16
number_of NamesAlike = 17
number_of BadArgument = 20
number_of NoDirectory = 21
number_of NotFound = 22
number_of AlreadyThere = 23
number_of IsDirectory = 24
number_of NotEmpty = 25
number_of PastEnd = 26
number_of NoFreeBlock = 27
number_of NoFreeAnode = 28
number_of ReportFull = 31
number_of ShortWriteList = 32
number_of BitmapSize = 40
number_of SettingsForm = 50
number_of LongSeconds = 51
number_of ShortOutput = 52

-- the number that a call answers: 0 where it is done
abbrev pub answer_of : {X : Type 0} → Result X Refusal → ℕ
answer_of (Ok x) = 0
answer_of (Err r) = number_of r
