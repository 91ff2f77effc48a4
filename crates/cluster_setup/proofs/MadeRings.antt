-- Public keys that were computed are of their parameter set.
use Rattle.std.proofs.Common.{ℕ, List, map, refl}
use Rattle.std.specs.List.{All}
use Rattle.std.proofs.lemmas.List.Elements.{All-map}
use Rattle.ledger_model.specs.Signatures.{public_key}
use Rattle.lm_ots.specs.declared.params.Params.{Params}
use Rattle.lm_ots.specs.declared.params.TreeHeight.{TreeHeight}
use Rattle.lm_ots.specs.declared.params.TreeHeight.TheVariants.{H5, H10}
use Rattle.lm_ots.specs.declared.params.Width.{Width}
use Rattle.lm_ots.specs.declared.params.Width.TheVariants.{W4, W8}
use Rattle.lm_ots.specs.Parameters.{numbers_of}
use Rattle.cluster_setup.specs.KeySizes.{HasSizes}

sizes : (w : Width) (h : TreeHeight) (identifier seed : List ℕ)
    → HasSizes (record { width = w; height = h }) (public_key (numbers_of (record { width = w; height = h })) identifier seed)
unfolding public_key
sizes W4 H5 identifier seed = refl
sizes W4 H10 identifier seed = refl
sizes W8 H5 identifier seed = refl
sizes W8 H10 identifier seed = refl

-- the public key of a key pair has the sizes of its parameter set
pub HasSizes-public_key : (params : Params) (identifier seed : List ℕ) → HasSizes params (public_key (numbers_of params) identifier seed)
HasSizes-public_key params identifier seed = sizes params.width params.height identifier seed

every : {X : Type 0} (P : X → Type 0) → ((x : X) → P x) → (xs : List X) → All P xs
every P each xs k d inside = each _

-- and so have the public keys of a list of key pairs
pub sized-map : {X : Type 0} (params : Params) (identifier seed : X → List ℕ) (xs : List X)
    → All (HasSizes params) (map (λ x. public_key (numbers_of params) (identifier x) (seed x)) xs)
sized-map params identifier seed xs =
    All-map (HasSizes params) (λ x. public_key (numbers_of params) (identifier x) (seed x)) xs
    (every (λ x. HasSizes params (public_key (numbers_of params) (identifier x) (seed x))) (λ x. HasSizes-public_key params (identifier x) (seed x)) xs)
