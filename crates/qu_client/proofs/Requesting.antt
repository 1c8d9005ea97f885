-- The letters of a round are made replica by replica.
use Rattle.std.proofs.Common.{◌≡◌, ℕ, zero, suc, ◌+◌, ◌-◌, ◌<◌, ◌≤◌, cond, true, false, List, [], ◌∷◌, ◌++◌, append_assoc, append-nil, sym, refl, ap, ◌∙◌, arith}
use Rattle.qu_base.specs.declared.party.ClientId.{ClientId}
use Rattle.qu_base.specs.declared.party.Digest.{Digest}
use Rattle.qu_base.specs.declared.party.Party.{Party}
use Rattle.qu_base.specs.declared.party.Party.TheVariants as party
use Rattle.qu_seal.specs.Keys.{Ring, seal_of}
use Rattle.qu_frames.specs.declared.frame.Letter.{Letter}
use Rattle.qu_frames.specs.Formats.{frame_form}
use Rattle.qu_frames.specs.Signing.{before_mac, text_digest, signed}
use Rattle.qu_client.specs.declared.whom.Whom.{Whom}
use Rattle.qu_client.specs.declared.work.Phase.{Phase}
use Rattle.qu_client.specs.declared.work.Work.{Work}
use Rattle.qu_client.specs.Whom.{is_asked}
use Rattle.qu_client.specs.Rounds.{request_of, requests_from}
use Rattle.qu_question.proofs.Gathered.{left_after}

abbrev pub request : ℕ → ClientId → List ℕ → Letter
request replica me text = record { from = party.Client me; to = party.Replica (record { 0 = replica }); text = text }

requests_from-asked : (keys : Ring) (replica count : ℕ) (me : ClientId) (work : Work) (whom : Whom)
    → is_asked keys.bounds whom replica ≡ true → requests_from keys replica (suc count) me work whom
    ≡ request replica me (signed keys (party.Replica (record { 0 = replica })) (request_of me work))
    ∷ requests_from keys (replica + 1) count me work whom
unfolding requests_from
requests_from-asked keys replica count me work whom is = rw is refl

requests_from-other : (keys : Ring) (replica count : ℕ) (me : ClientId) (work : Work) (whom : Whom)
    → is_asked keys.bounds whom replica ≡ false
    → requests_from keys replica (suc count) me work whom ≡ requests_from keys (replica + 1) count me work whom
unfolding requests_from
requests_from-other keys replica count me work whom is = rw is refl

-- a text with the HMAC of its digest is signed
signed_so : (keys : Ring) (to : Party) (me : ClientId) (work : Work) (text : List ℕ)
    (digest : Digest) (mac made : List ℕ) → text ≡ frame_form.spell (request_of me work)
    → digest ≡ text_digest text
    → mac ≡ seal_of keys (party.Client me) to digest → made ≡ before_mac text ++ mac
    → made ≡ signed keys to (request_of me work)
unfolding signed
signed_so keys to me work text digest mac made spelled digests seals is =
    is ∙ (λ i. before_mac (spelled i) ++ (seals ∙ ap (λ (it : Digest). seal_of keys (party.Client me) to it)
    (digests ∙ ap text_digest spelled)) i)

module _ (keys : Ring) (replica n : ℕ) (me : ClientId) (work : Work) (whom : Whom)
    (letters total : List Letter)
    (so_far : letters ++ requests_from keys replica (n - replica) me work whom ≡ total) where
  -- the next replica's request, with the HMAC for it
  pub requests_from_more : (text : List ℕ) (digest : Digest) (mac made : List ℕ) (grown : List Letter)
      → replica < n → is_asked keys.bounds whom replica ≡ true → text ≡ frame_form.spell (request_of me work)
      → digest ≡ text_digest text → mac ≡ seal_of keys (party.Client me) (party.Replica (record { 0 = replica })) digest
      → made ≡ before_mac text ++ mac → grown ≡ letters ++ request replica me made ∷ []
      → grown ++ requests_from keys (replica + 1) (n - (replica + 1)) me work whom ≡ total
  requests_from_more text digest mac made grown below is spelled digests seals makes grows =
      let to : Party = party.Replica (record { 0 = replica }) in
      ap (λ front. front ++ requests_from keys (replica + 1) (n - (replica + 1)) me work whom)
      (grows ∙ ap (λ that. letters ++ request replica me that ∷ [])
      (signed_so keys to me work text digest mac made spelled digests seals makes)) ∙
      append_assoc letters (request replica me (signed keys to (request_of me work)) ∷ []) _ ∙
      ap (λ later. letters ++ later) (sym (requests_from-asked keys replica (n - (replica + 1)) me work whom is) ∙
      ap (λ count. requests_from keys replica count me work whom) (sym (left_after n replica below))) ∙
      so_far

  -- a replica that is not asked
  pub requests_from_less : (same : List Letter) → replica < n → is_asked keys.bounds whom replica ≡ false
      → same ≡ letters → same ++ requests_from keys (replica + 1) (n - (replica + 1)) me work whom ≡ total
  requests_from_less same below is stays =
      ap (λ front. front ++ requests_from keys (replica + 1) (n - (replica + 1)) me work whom) stays ∙
      ap (λ later. letters ++ later) (sym (requests_from-other keys replica (n - (replica + 1)) me work whom is) ∙
      ap (λ count. requests_from keys replica count me work whom) (sym (left_after n replica below))) ∙
      so_far

  -- after the last replica
  pub requests_from_end : n ≤ replica → letters ≡ total
  unfolding requests_from
  requests_from_end past =
      let none : n - replica ≡ 0 = omega arith in
      sym (append-nil letters) ∙ ap (λ count. letters ++ requests_from keys replica count me work whom) (sym none)
      ∙ so_far

-- the request is the same in each phase
pub asked_in_any_phase : (keys : Ring) (count replica : ℕ) (me : ClientId) (work : Work) (whom : Whom) (phase : Phase)
    → requests_from keys replica count me (record work { phase = phase }) whom
    ≡ requests_from keys replica count me work whom
unfolding requests_from
asked_in_any_phase keys zero replica me work whom phase = refl
asked_in_any_phase keys (suc count) replica me work whom phase =
    let later : requests_from keys (replica + 1) count me (record work { phase = phase }) whom
    ≡ requests_from keys (replica + 1) count me work whom =
    asked_in_any_phase keys count (replica + 1) me work whom phase in
    ap (λ (it : List Letter). cond (is_asked keys.bounds whom replica)
    (request replica me (signed keys (party.Replica (record { 0 = replica })) (request_of me work)) ∷ it) it) later
