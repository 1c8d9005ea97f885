-- The letters of a run as lines by which each byte of them can be compared.
use Rattle.std.specs.Prelude.{ℕ, List, ◌++◌, length, map, codes}
use Rattle.std.specs.List.{flat_map, enumerate_from}
use Rattle.std.specs.Fmt.{decimal}
use Rattle.hex.specs.Hex.{encode_lower}
use Rattle.sha2.specs.Sha256.{sha256}
use Rattle.qu_base.specs.declared.party.Party.{Party}
use Rattle.qu_base.specs.declared.party.Party.TheVariants.{Replica, Client}
use Rattle.qu_notation.specs.Bytes.{bytes_text}
use Rattle.qu_frames.specs.declared.frame.Letter.{Letter}
use Rattle.qu_trace.specs.declared.trace.Entry.{Entry}
use Rattle.qu_trace.specs.declared.trace.Trace.{Trace}
use Rattle.qu_print.specs.Lines.{lines_text}
use Rattle.qu_listed.specs.declared.last_word.LastWord.{LastWord}
use Rattle.qu_listed.specs.declared.last_word.LastWord.TheVariants.{Digest, Bytes}

-- `r0` is replica 0, `c1` is client 1
abbrev pub short_name : Party → List ℕ
short_name (Replica me) = codes "r" ++ decimal me.0
short_name (Client me) = codes "c" ++ decimal me.0

-- sender, receiver and length of a letter, each with a space behind it
abbrev pub route_text : Letter → List ℕ
route_text letter =
    short_name letter.from ++ codes " " ++ short_name letter.to
    ++ codes " " ++ decimal (length letter.text) ++ codes " "

-- the SHA-256 digest of a text in lower-case hexadecimal
unfoldable pub digest_text : List ℕ → List ℕ
digest_text text = encode_lower (sha256 text)

-- what is told of a text: its digest, or all its bytes
abbrev pub last_text : LastWord → List ℕ → List ℕ
last_text Digest = digest_text
last_text Bytes = bytes_text

-- number, event, sender, receiver, length, and what is told of all its bytes
unfoldable pub told_line : (List ℕ → List ℕ) → ℕ → ℕ → Letter → List ℕ
told_line told number event letter =
    decimal number ++ codes " " ++ decimal event ++ codes " " ++ route_text letter ++ told letter.text

-- a letter with the event that sent it
abbrev pub sent_at : ℕ → Letter → ℕ × Letter
sent_at event letter = (event, letter)

-- the letters of these events, of which the first has this number, each with its event
abbrev pub sent_from : ℕ → List Entry → List (ℕ × Letter)
sent_from first entries = flat_map (λ place. map (sent_at place.0) place.1.letters) (enumerate_from first entries)

-- the lines of these letters, of which the first has this number
abbrev pub numbered_lines : (List ℕ → List ℕ) → ℕ → List (ℕ × Letter) → List (List ℕ)
numbered_lines told first letters =
    map (λ place. told_line told place.0 (place.1).0 (place.1).1) (enumerate_from first letters)

-- a line for each letter that the run sent, with its digest: events are numbered from 1, and so are letters
unfoldable pub digests_text : Trace → List ℕ
digests_text trace = lines_text (numbered_lines digest_text 1 (sent_from 1 trace.entries))

-- the same with the bytes of the letter
unfoldable pub letter_bytes_text : Trace → List ℕ
letter_bytes_text trace = lines_text (numbered_lines bytes_text 1 (sent_from 1 trace.entries))
