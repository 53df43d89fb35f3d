-- The numbers of the response codes, as they are written: class, point, detail in two digits.
use Rattle.std.specs.Prelude.{ℕ, List, codes}
use Rattle.protocol.specs.declared.code.Code.{Code}
use Rattle.protocol.specs.declared.code.Code.TheVariants.{Created, Deleted, Changed, Content, BadRequest, Forbidden, NotFound, TooLarge, UnsupportedFormat, InternalError, Unavailable}

-- the digit before the point: 2 success, 4 the client's error, 5 the server's
abbrev pub class_of : Code → ℕ
class_of Created = 2
class_of Deleted = 2
class_of Changed = 2
class_of Content = 2
class_of BadRequest = 4
class_of Forbidden = 4
class_of NotFound = 4
class_of TooLarge = 4
class_of UnsupportedFormat = 4
class_of InternalError = 5
class_of Unavailable = 5

-- the number behind the point
abbrev pub detail_of : Code → ℕ
detail_of Created = 1
detail_of Deleted = 2
detail_of Changed = 4
detail_of Content = 5
detail_of BadRequest = 0
detail_of Forbidden = 3
detail_of NotFound = 4
detail_of TooLarge = 13
detail_of UnsupportedFormat = 15
detail_of InternalError = 0
detail_of Unavailable = 3

-- a code as it is written
abbrev pub code_text : Code → List ℕ
code_text Created = codes "2.01"
code_text Deleted = codes "2.02"
code_text Changed = codes "2.04"
code_text Content = codes "2.05"
code_text BadRequest = codes "4.00"
code_text Forbidden = codes "4.03"
code_text NotFound = codes "4.04"
code_text TooLarge = codes "4.13"
code_text UnsupportedFormat = codes "4.15"
code_text InternalError = codes "5.00"
code_text Unavailable = codes "5.03"
