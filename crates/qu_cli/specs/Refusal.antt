-- The line that tells why a script is refused.
use Rattle.std.specs.Prelude.{ℕ, List, [], ◌∷◌, ◌++◌, codes}
use Rattle.std.specs.Fmt.{decimal}
use Rattle.qu_script_words.specs.declared.bad.Bad.{Bad}
use Rattle.qu_script_words.specs.declared.bad.BadKind.{BadKind}
use Rattle.qu_script_words.specs.declared.bad.BadKind.TheVariants.{TooLong, NotAscii, ExpectedBounds, ExpectedSeed, ExpectedClients, ExpectedObject, OutOfOrder, UnknownWord, WrongCount, BadNumber, BadHex, BadName, OverLimit, NoSuchActor, NoSuchObject, NotInLive, NoSuchLetter, Busy, NoRequest, TooManyEvents, TooManyBytes}

abbrev pub kind_text : BadKind → List ℕ
kind_text TooLong = codes "too long"
kind_text NotAscii = codes "not ascii"
kind_text ExpectedBounds = codes "expected bounds"
kind_text ExpectedSeed = codes "expected seed"
kind_text ExpectedClients = codes "expected clients"
kind_text ExpectedObject = codes "expected object"
kind_text OutOfOrder = codes "out of order"
kind_text UnknownWord = codes "unknown word"
kind_text WrongCount = codes "wrong count"
kind_text BadNumber = codes "bad number"
kind_text BadHex = codes "bad hex"
kind_text BadName = codes "bad name"
kind_text OverLimit = codes "over limit"
kind_text NoSuchActor = codes "no such actor"
kind_text NoSuchObject = codes "no such object"
kind_text NotInLive = codes "not in live"
kind_text NoSuchLetter = codes "no such letter"
kind_text Busy = codes "busy"
kind_text NoRequest = codes "no request"
kind_text TooManyEvents = codes "too many events"
kind_text TooManyBytes = codes "too many bytes"

unfoldable pub bad_text : Bad → List ℕ
bad_text bad = codes "line " ++ decimal bad.line ++ codes ": " ++ kind_text bad.kind ++ 10 ∷ []
