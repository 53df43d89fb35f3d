-- The numbers and response codes of the refusals, and the numbers of the faults of reading.
use Rattle.std.specs.Fmt.{decimal}
use Rattle.std.specs.Prelude.{ℕ, List, [], ◌++◌, Some, None, Option, codes}
use Rattle.protocol.specs.Codes.{code_text}
use Rattle.protocol.specs.declared.code.Code.{Code}
use Rattle.protocol.specs.declared.code.Code.TheVariants as code
use Rattle.protocol.specs.declared.fault.Fault.{Fault}
use Rattle.protocol.specs.declared.fault.Fault.TheVariants.{Ends, WrongType, UnknownKey, RepeatedKey, Trailing}
use Rattle.protocol.specs.declared.refusal.Refusal.{Refusal}
use Rattle.protocol.specs.declared.refusal.Refusal.TheVariants.{ShortBuffers, ShortMemory, BadStoreRequest, StoreFull, BadBatch, OutboxFull, TooLarge, Unreadable, BadValue, NoSuchTopic, HalfCreated, WrongFormat, NameTaken, MessagesDoNotFit, NoRoom, CounterSpent, ForeignValue}

-- the number of a fault of reading
abbrev pub fault_number : Fault → ℕ
fault_number Ends = 1
fault_number WrongType = 2
fault_number UnknownKey = 3
fault_number RepeatedKey = 4
fault_number Trailing = 5

-- the number of a refusal
abbrev pub number_of : Refusal → ℕ
number_of ShortBuffers = 1
number_of ShortMemory = 2
number_of BadStoreRequest = 3
number_of StoreFull = 4
number_of BadBatch = 5
number_of OutboxFull = 6
number_of TooLarge = 10
number_of (Unreadable fault) = 11
number_of BadValue = 12
number_of NoSuchTopic = 20
number_of HalfCreated = 21
number_of WrongFormat = 22
number_of NameTaken = 23
number_of MessagesDoNotFit = 30
number_of NoRoom = 31
number_of CounterSpent = 32
number_of ForeignValue = 33

-- the response code of a refusal; none where the host alone is told
abbrev pub code_of : Refusal → Option Code
code_of ShortBuffers = None
code_of ShortMemory = None
code_of BadStoreRequest = None
code_of StoreFull = None
code_of BadBatch = None
code_of OutboxFull = None
code_of TooLarge = Some code.TooLarge
code_of (Unreadable fault) = Some code.BadRequest
code_of BadValue = Some code.BadRequest
code_of NoSuchTopic = Some code.NotFound
code_of HalfCreated = Some code.NotFound
code_of WrongFormat = Some code.UnsupportedFormat
code_of NameTaken = Some code.Forbidden
code_of MessagesDoNotFit = Some code.Unavailable
code_of NoRoom = Some code.Unavailable
code_of CounterSpent = Some code.Unavailable
code_of ForeignValue = Some code.InternalError

-- a code as it stands behind a refusal's number
abbrev pub code_part : Option Code → List ℕ
code_part None = []
code_part (Some c) = codes " " ++ code_text c

-- the fault as it stands behind a refusal's code
abbrev pub fault_part : Refusal → List ℕ
fault_part (Unreadable fault) = codes " fault=" ++ decimal (fault_number fault)
fault_part r = []

-- a refusal as it is told: its number, its code where it has one, and the fault inside
abbrev pub refusal_text : Refusal → List ℕ
refusal_text r = decimal (number_of r) ++ (code_part (code_of r) ++ fault_part r)
