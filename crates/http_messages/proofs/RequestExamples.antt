-- Worked examples: what lines of clients ask, by the definitions alone.
use Rattle.std.proofs.Common.{◌≡◌, codes, refl}
use Rattle.std.specs.Prelude.{⊤, Some, None, Ok, Err}
use Rattle.form_urlencoded.proofs.OnLiterals.{form_urlencoded_on_literals}
use Rattle.hex.proofs.OnLiterals.{hex_on_literals}
use Rattle.http_messages.specs.declared.fault.Parameter.TheVariants.{Tx, Replica}
use Rattle.http_messages.specs.declared.fault.RequestFault.TheVariants as fault
use Rattle.http_messages.specs.Questions.{AbciQuery, Block, BroadcastCommit}
use Rattle.http_messages.specs.Endpoints.{endpoint_of}
use Rattle.http_messages.specs.Values.{quoted_of, byte_string_of, decimal_number, written_number_of}
use Rattle.http_messages.specs.Parameters.{value_of, required_bytes, optional_number, replica_in}
use Rattle.http_messages.specs.Requests.{question_in, request_in, asked_by}

-- what computes the definitions on a literal
unfoldable asked_on_literals : ⊤
unfolding
    asked_by endpoint_of request_in question_in required_bytes optional_number value_of replica_in byte_string_of quoted_of decimal_number
    written_number_of form_urlencoded_on_literals hex_on_literals
asked_on_literals = tt

-- the line of CometBFT's tutorial on its key-value store
asked-commit : asked_by (codes "GET") (codes "/broadcast_tx_commit?tx=\"name=satoshi\"")
    ≡ Ok (record { question = BroadcastCommit (codes "name=satoshi"); replica = None })
unfolding asked_on_literals
asked-commit = refl

-- escapes, hexadecimal digits, a number in quotes, and a replica
asked-query : asked_by (codes "GET") (codes "/abci_query?replica=3&data=0x6E616d65&height=%220012%22")
    ≡ Ok (record { question = AbciQuery (codes "name") (Some 12); replica = Some 3 })
unfolding asked_on_literals
asked-query = refl

-- the first of two values counts
asked-block : asked_by (codes "GET") (codes "/block?height=1&height=x") ≡ Ok (record { question = Block (Some 1); replica = None })
unfolding asked_on_literals
asked-block = refl

-- a form of its own for each fault
asked-wrong : asked_by (codes "GET") (codes "/broadcast_tx_sync?tx=abcd") ≡ Err (fault.Parameter Tx)
unfolding asked_on_literals
asked-wrong = refl

asked-great : asked_by (codes "GET") (codes "/status?replica=256") ≡ Err (fault.Parameter Replica)
unfolding asked_on_literals
asked-great = refl

asked-post : asked_by (codes "POST") (codes "/status") ≡ Err fault.Method
unfolding asked_on_literals
asked-post = refl

asked-other : asked_by (codes "POST") (codes "/other") ≡ Err fault.NotFound
unfolding asked_on_literals
asked-other = refl
