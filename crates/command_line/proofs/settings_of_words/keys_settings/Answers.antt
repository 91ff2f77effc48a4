use Rattle.command_line.specs.Options.{keys_options}
use Rattle.command_line.proofs.Tables.{has_cluster}
use Rattle.command_line.proofs.settings_of_words.keys_settings.Goals as goal

pub returns-clause-right : goal.returns-clause-right
returns-clause-right g c = λ meaning. c.cluster.ensures.right meaning keys_options (has_cluster _ _ _ _ _)
