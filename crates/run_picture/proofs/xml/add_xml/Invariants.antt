-- the bytes so far are appended
use Rattle.std.proofs.Common.{◌≡◌, ◌++◌, take}
use Rattle.run_picture.specs.Xml.{xml_text}
use Rattle.run_picture.proofs.xml.add_xml.Given as goal

abbrev pub invariant-loop-byte : goal.invariant-loop-byte
invariant-loop-byte l = l.out.items ≡ l.fn.out.items ++ xml_text (take l.byte-index l.text)
