use Rattle.std.proofs.Common.{◌≡◌, ◌∙◌, string_bytes, true, sym, ap, subst}
use Rattle.std.specs.List.{Contains}
use Rattle.std.specs.Map.{keys_of}
use Rattle.std.proofs.lemmas.List.Elements.{All-nil, All-push}
use Rattle.std.specs.Map.Iter.{deref}
use Rattle.std.proofs.lemmas.Map.Iter.{iter_end, iter_turn}
use Rattle.toml.specs.View.{table_view}
use Rattle.cluster_files.specs.FileTables.{is_file_name, names_in}
use Rattle.cluster_files.proofs.TableViews.{contained_name, known_names}
use Rattle.cluster_files.proofs.table_reading.unknown_name.Goals as goal

pub loop-name-init : goal.loop-name-init
loop-name-init c = All-nil (λ name. is_file_name (string_bytes name.now) ≡ true)

pub returns-then-not-is_name : goal.returns-then-not-is_name
returns-then-not-is_name c =
    let at = iter_turn deref (keys_of c.args.table.now.entries) c.loop-name.yielded c.into_iter-name-iterator.result c.loop-name.name-iterator
    c.next.new.self c.next.result (c.into_iter-name-iterator.ensures.into_iter_gives ∙ c.keys-name-items.ensures.rest)
    c.loop-name.yielded_by c.in-Some.name c.in-Some.is c.next.ensures.steps in
    let named = c.as_str-then-not-is_name.ensures.value in (
      subst (Contains (names_in (table_view c.args.table.now))) (sym named) (contained_name c.args.table.now.entries _ c.in-Some.name.now at.1),
      ap is_file_name (named ∙ sym c.as_str.ensures.value) ∙ sym c.is_name.ensures ∙ c.if-not-is_name.true,
    )

pub loop-name-preserved : goal.loop-name-preserved
loop-name-preserved c =
    All-push (λ name. is_file_name (string_bytes name.now) ≡ true) c.loop-name.yielded c.in-Some.name c.loop-name.invariant
    (ap is_file_name (sym c.as_str.ensures.value) ∙ sym c.is_name.ensures ∙ c.if-not-is_name.false)

pub returns : goal.returns
returns c =
    known_names c.args.table.now.entries c.loop-name.yielded
    (iter_end deref (keys_of c.args.table.now.entries) c.loop-name.yielded c.into_iter-name-iterator.result c.loop-name.name-iterator
    c.next.new.self c.next.result (c.into_iter-name-iterator.ensures.into_iter_gives ∙ c.keys-name-items.ensures.rest)
    c.loop-name.yielded_by c.in-None.is c.next.ensures.steps).0
    c.loop-name.invariant
