-- A push on the list is growth's push on the columns (`push-agrees`), with room for it on both or on neither (`room-agrees`), and what joins the list joins the definition's
-- waiting nodes (`joins-agree`). They stand here, and what else is known of the two forms in specs/, Flat.
use Rattle.std.specs.Prelude.{ℕ, ◌+◌, ◌<◌, ◌≡◌, ◌∷◌, List, length, set, ltb}
use Rattle.std.proofs.Common.{sym, ap, ◌∙◌, subst}
use Rattle.std.proofs.lemmas.List.{length-map}
use Rattle.rules.specs.Lent.{WaitingRoom, waiting_room}
use Rattle.node_entries.specs.Entries.{wholes_of, reals_of}
use Rattle.node_growth.specs.Rooms.{Ground, waiting_of, waiting_list}
use Rattle.node_growth.specs.Steps.{list-new}
use Rattle.lent_forms.specs.declared.Waiting.{Waiting}
use Rattle.lent_forms.specs.WaitingList.{pushed}
use Rattle.lent_forms.specs.Flat.{apart, wholes_in, reals_in, flat, pushed_flat, places-agree, map-set}

pub push-agrees : (l : List Waiting) (n : ℕ) (w : Waiting) → flat (pushed l n w).rooms ≡ pushed_flat (flat l) n (apart w)
push-agrees l n w =
    ap (λ ws. record { wholes = ws; reals = reals_in (set l n w) }) (map-set (λ v. wholes_of (apart v)) l n w)
    ∙ ap (λ rs. record { wholes = set (wholes_in l) n (wholes_of (apart w)); reals = rs }) (map-set (λ v. reals_of (apart v)) l n w)

pub room-agrees : (l : List Waiting) (n : ℕ) (w : Waiting) → (pushed l n w).answer ≡ ltb n (waiting_room.places (flat l))
room-agrees l n w = ap (ltb n) (sym (places-agree l))

-- a node that joins the list joins the definition's waiting nodes
pub joins-agree : (g : Ground) (l : List Waiting) (n : ℕ) (w : Waiting) → n < length l
    → waiting_list g (wholes_in (pushed l n w).rooms) (reals_in (pushed l n w).rooms) (n + 1) ≡ waiting_of g (apart w) ∷ waiting_list g (wholes_in l) (reals_in l) n
joins-agree g l n w h =
    ap (λ (s : WaitingRoom). waiting_list g s.wholes s.reals (n + 1)) (push-agrees l n w)
    ∙ list-new g (wholes_in l) (reals_in l) n (apart w) (subst (λ k. n < k) (sym (length-map l (λ v. wholes_of (apart v)))) h) (subst (λ k. n < k) (sym (length-map l (λ v. reals_of (apart v)))) h)
