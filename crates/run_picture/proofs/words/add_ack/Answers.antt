use Rattle.std.specs.Prelude.{codes}
use Rattle.run_picture.specs.Xml.{value_xml}
use Rattle.run_picture.specs.Words.{head_words}
use Rattle.run_picture.proofs.Joining.{three_joined}
use Rattle.run_picture.proofs.words.add_ack.Goals as goal

pub returns : goal.returns
returns c =
    let a = c.args.ack.now in
    three_joined c.add_value.result c.args.out.now.items (head_words (codes "acknowledgement") a.height a.phase a.signer) (codes " of ")
    (value_xml a.value) _ _ _ c.in_ok-add_head.ensures c.in_ok-add.ensures c.add_value.ensures
