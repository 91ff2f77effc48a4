-- Commands that are built step by step.
use Rattle.std.proofs.Common.{◌≡◌, ◌∙◌, ◌∷◌, ◌++◌, ◌+◌, ◌<◌, ℕ, Bool, [], List, ap, cond, false, filter, get_or, length, map, sym, take, true}
use Rattle.std.proofs.lemmas.List.{append-nil, map-append, map_more}
use Rattle.std.proofs.lemmas.List.Elements.{All-head, All-tail, filter_more}
use Rattle.std.specs.Prelude.{◌||◌}
use Rattle.std.specs.List.{All}
use Rattle.clap.specs.Built.{AddsArg, AddsInTurn, AddsSubcommand}
use Rattle.clap.specs.Words.{app_of, rule_of}
use Rattle.clap.specs.declared.builder.arg.Arg.{Arg}
use Rattle.clap.specs.declared.builder.command.Command.{Command}
use Rattle.clap.specs.declared.builder.command.Command.TheViews.{out-Command as fields_of}
use Rattle.command_line.specs.Grammar.{with_rules, with_subcommands}

-- arguments in turn, none of them global
pub args_added : (c d : Command) (xs : List Arg) → (fields_of c).has_globals ≡ false → All (λ a. a.global ≡ false) xs
    → AddsInTurn AddsArg c xs d
    → (app_of d ≡ with_rules (app_of c) (map rule_of xs)) × ((fields_of d).has_globals ≡ false)
args_added c d [] local all same = (ap app_of (sym same), ap (λ x. (fields_of x).has_globals) (sym same) ∙ local)
args_added c d (x ∷ xs) local all added =
    let own = All-head (λ (a : Arg). a.global ≡ false) x xs all in
    let mid = added.1.globals ∙ ap (λ b. b || x.global) local ∙ own in
    let rest = args_added added.0 d xs mid (All-tail (λ (a : Arg). a.global ≡ false) x xs all) added.2 in
    (rest.0 ∙ ap (λ a. with_rules a (map rule_of xs)) (added.1.shape own), rest.1)

-- subcommands in turn, none with a global argument
pub commands_added : (c d : Command) (xs : List Command) → All (λ x. (fields_of x).has_globals ≡ false) xs
    → AddsInTurn AddsSubcommand c xs d
    → app_of d ≡ with_subcommands (app_of c) (map app_of xs)
commands_added c d [] all same = ap app_of (sym same)
commands_added c d (x ∷ xs) all added =
    let own = All-head (λ (y : Command). (fields_of y).has_globals ≡ false) x xs all in
    commands_added added.0 d xs (All-tail (λ (y : Command). (fields_of y).has_globals ≡ false) x xs all) added.2
    ∙ ap (λ a. with_subcommands a (map app_of xs)) (added.1.shape own)

-- a list that follows another one: one more of each
pub one_more_made : {X Y Z : Type 0} (f : X → Z) (g : Y → Z) (xs : List X) (ys : List Y) (i : ℕ) (x : X) (d : Y) → i < length ys
    → map f xs ≡ map g (take i ys) → f x ≡ g (get_or ys i d) → map f (xs ++ x ∷ []) ≡ map g (take (i + 1) ys)
one_more_made f g xs ys i x d within made same =
    map-append f xs (x ∷ []) ∙ ap (λ zs. zs ++ f x ∷ []) made ∙ ap (λ z. map g (take i ys) ++ z ∷ []) same ∙ sym (map_more g ys i d within)

-- the list follows those of another one that pass a test, and the next one passes it, too
pub one_more_had : {X Y Z : Type 0} (f : X → Z) (g : Y → Z) (p : Y → Bool) (xs : List X) (ys : List Y) (i : ℕ) (x : X) (d : Y) → i < length ys
    → p (get_or ys i d) ≡ true → map f xs ≡ map g (filter p (take i ys)) → f x ≡ g (get_or ys i d)
    → map f (xs ++ x ∷ []) ≡ map g (filter p (take (i + 1) ys))
one_more_had f g p xs ys i x d within had made same =
    map-append f xs (x ∷ []) ∙ ap (λ zs. zs ++ f x ∷ []) made ∙ ap (λ z. map g (filter p (take i ys)) ++ z ∷ []) same
    ∙ sym (map-append g (filter p (take i ys)) (get_or ys i d ∷ []))
    ∙ sym (ap (map g) (filter_more p ys i d within ∙ ap (λ b. filter p (take i ys) ++ cond b (get_or ys i d ∷ []) []) had))

-- the list follows those of another one that pass a test, and the next one doesn't
pub one_left_out : {X Y Z : Type 0} (f : X → Z) (g : Y → Z) (p : Y → Bool) (xs : List X) (ys : List Y) (i : ℕ) (d : Y) → i < length ys
    → p (get_or ys i d) ≡ false → map f xs ≡ map g (filter p (take i ys)) → map f xs ≡ map g (filter p (take (i + 1) ys))
one_left_out f g p xs ys i d within out made =
    made ∙ sym (ap (map g) (filter_more p ys i d within ∙ ap (λ b. filter p (take i ys) ++ cond b (get_or ys i d ∷ []) []) out
    ∙ append-nil (filter p (take i ys))))
