-- The letters that are known behind an event.
use Rattle.std.proofs.Common.{◌≡◌, List, [], ◌∷◌, ◌++◌, map, ap, sym, ◌∙◌}
use Rattle.std.proofs.lemmas.List.{map-append}
use Rattle.qu_trace.specs.declared.trace.Entry.{Entry}
use Rattle.qu_trace.specs.declared.trace.Setup.{Setup}
use Rattle.qu_trace.specs.Letters.{letters_of}
use Rattle.qu_trace.proofs.LetterLaws.{letters-push}
use Rattle.qu_listing.specs.declared.so_far.Sent.{Sent}
use Rattle.qu_listing.specs.SoFar.{sent_of}

-- and what is known of them
pub sent_more : (setup : Setup) (earlier : List Entry) (entry : Entry) (sent sent' : List Sent)
    → sent ≡ map (sent_of setup) (letters_of earlier) → sent' ≡ sent ++ map (sent_of setup) entry.letters
    → sent' ≡ map (sent_of setup) (letters_of (earlier ++ entry ∷ []))
sent_more setup earlier entry sent sent' before grown =
    grown ∙ ap (λ front. front ++ map (sent_of setup) entry.letters) before
    ∙ sym (map-append (sent_of setup) (letters_of earlier) entry.letters)
    ∙ ap (map (sent_of setup)) (sym (letters-push earlier entry))
