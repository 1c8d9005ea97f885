-- One HMAC more.
use Rattle.std.proofs.Common.{◌∙◌, ◌++◌, ◌∷◌, [], List, ℕ, ap, sym, map, arith}
use Rattle.std.specs.List.{range_with_len}
use Rattle.std.proofs.lemmas.List.FromFn.{map-range_with_len_more}
use Rattle.qu_adversary.specs.Sealing.{mac_for}
use Rattle.qu_adversary.proofs.sealing.authenticator_for.Goals as goal

pub loop-number-preserved : goal.loop-number-preserved
loop-number-preserved c =
    c.in_ok-push.ensures.ok
    ∙ ap (λ (macs : List (List ℕ)). macs ++ c.mac_for.result ∷ []) c.loop-number.invariant
    ∙ ap (λ (mac : List ℕ).
    map (λ number. mac_for c.args.keys.now c.args.me c.args.good.now c.args.text.now number)
    (range_with_len 0 c.loop-number.number) ++ mac ∷ []) c.mac_for.ensures
    ∙ sym (map-range_with_len_more
    (λ number. mac_for c.args.keys.now c.args.me c.args.good.now c.args.text.now number)
    0 c.loop-number.number c.loop-number.number (omega arith))
