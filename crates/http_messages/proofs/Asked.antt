-- What is asked has no fault, or one of its path, its method or a parameter.
use Rattle.std.proofs.Common.{ℕ, ◌^◌, true, false, cond, List}
use Rattle.std.specs.Prelude.{nat_lt, codes, Option, Some, None, Result, Ok, Err}
use Rattle.std.specs.Str.{bytes_eq}
use Rattle.form_urlencoded.specs.Form.{decode}
use Rattle.http_messages.specs.declared.endpoint.Endpoint.{Endpoint}
use Rattle.http_messages.specs.declared.endpoint.Endpoint.TheVariants as endpoint
use Rattle.http_messages.specs.declared.fault.Parameter.{Parameter}
use Rattle.http_messages.specs.declared.fault.Parameter.TheVariants.{Tx, Data, Height, Replica}
use Rattle.http_messages.specs.declared.fault.RequestFault.{RequestFault}
use Rattle.http_messages.specs.declared.fault.RequestFault.TheVariants as fault
use Rattle.http_messages.specs.Faults.{parameter_name, ◌>>=◌}
use Rattle.http_messages.specs.Endpoints.{endpoint_of}
use Rattle.http_messages.specs.Values.{byte_string_of, written_number_of}
use Rattle.http_messages.specs.Parameters.{value_of, value_or_fault, bytes_parameter, required_bytes, number_or_fault, number_parameter, optional_number}
use Rattle.http_messages.specs.Parameters.{replica_parameter, replica_in}
use Rattle.http_messages.specs.Requests.{path_of, query_of, question_in, request_in, asked_of, asked_by}

-- no fault, or one of the path, the method or a parameter
abbrev pub IsAsked : {A : Type 0} → Result A RequestFault → Type 0
IsAsked (Ok x) = Unit {0}
IsAsked (Err fault.Malformed) = ⊥
IsAsked (Err fault.Incomplete) = ⊥
IsAsked (Err (fault.Parameter p)) = Unit {0}
IsAsked (Err fault.NotFound) = Unit {0}
IsAsked (Err fault.Method) = Unit {0}
IsAsked (Err fault.TooLong) = ⊥
IsAsked (Err fault.NoMemory) = ⊥

-- a fault of a step is one of both
same_fault : (A B : Type 0) (e : RequestFault) → IsAsked {A = A} (Err e) → IsAsked {A = B} (Err e)
same_fault A B fault.Malformed h = absurd h
same_fault A B fault.Incomplete h = absurd h
same_fault A B (fault.Parameter p) h = tt
same_fault A B fault.NotFound h = tt
same_fault A B fault.Method h = tt
same_fault A B fault.TooLong h = absurd h
same_fault A B fault.NoMemory h = absurd h

both : {A B : Type 0} (x : Result A RequestFault) (f : A → Result B RequestFault) → IsAsked x
    → ((a : A) → IsAsked (f a)) → IsAsked (x >>= f)
both (Ok a) f h k = k a
both {A} {B} (Err e) f h k = same_fault A B e h

value_or_fault-asked : {A : Type 0} (p : Parameter) (o : Option A) → IsAsked (value_or_fault p o)
value_or_fault-asked p (Some x) = tt
value_or_fault-asked p None = tt

bytes_in-asked : (p : Parameter) (o : Option (List ℕ)) → IsAsked (bytes_parameter p o)
bytes_in-asked p (Some encoded) = value_or_fault-asked p (byte_string_of (decode encoded))
bytes_in-asked p None = tt

required_bytes-asked : (p : Parameter) (query : List ℕ) → IsAsked (required_bytes p query)
unfolding required_bytes
required_bytes-asked p query = bytes_in-asked p (value_of (parameter_name p) query)

number_or_fault-asked : (p : Parameter) (o : Option ℕ) → IsAsked (number_or_fault p o)
number_or_fault-asked p (Some n) = tt
number_or_fault-asked p None = tt

number_in-asked : (p : Parameter) (o : Option (List ℕ)) → IsAsked (number_parameter p o)
number_in-asked p (Some encoded) = number_or_fault-asked p (written_number_of (decode encoded))
number_in-asked p None = tt

optional_number-asked : (p : Parameter) (query : List ℕ) → IsAsked (optional_number p query)
unfolding optional_number
optional_number-asked p query = number_in-asked p (value_of (parameter_name p) query)

replica_of-asked : (o : Option ℕ) → IsAsked (replica_parameter o)
replica_of-asked (Some n) =
    elim (nat_lt n (2 ^ 8))
    as (λ t. IsAsked (cond {A = Result (Option ℕ) RequestFault} t (Ok (Some n)) (Err (fault.Parameter Replica)))) [ true ↦ tt | false ↦ tt ]
replica_of-asked None = tt

replica_in-asked : (query : List ℕ) → IsAsked (replica_in query)
unfolding replica_in
replica_in-asked query = both (optional_number Replica query) replica_parameter (optional_number-asked Replica query) replica_of-asked

question_in-asked : (e : Endpoint) (query : List ℕ) → IsAsked (question_in e query)
unfolding question_in
question_in-asked endpoint.Page query = tt
question_in-asked endpoint.Health query = tt
question_in-asked endpoint.Status query = tt
question_in-asked endpoint.AbciInfo query = tt
question_in-asked endpoint.AbciQuery query =
    both (required_bytes Data query) _ (required_bytes-asked Data query)
    (λ key. both (optional_number Height query) _ (optional_number-asked Height query) (λ height. tt))
question_in-asked endpoint.Block query = both (optional_number Height query) _ (optional_number-asked Height query) (λ height. tt)
question_in-asked endpoint.UnconfirmedTxs query = tt
question_in-asked endpoint.BroadcastSync query = both (required_bytes Tx query) _ (required_bytes-asked Tx query) (λ tx. tt)
question_in-asked endpoint.BroadcastCommit query = both (required_bytes Tx query) _ (required_bytes-asked Tx query) (λ tx. tt)
question_in-asked endpoint.Metrics query = tt

request_in-asked : (e : Endpoint) (query : List ℕ) → IsAsked (request_in e query)
unfolding request_in
request_in-asked e query =
    both (question_in e query) _ (question_in-asked e query)
    (λ question. both (replica_in query) _ (replica_in-asked query) (λ replica. tt))

asked_of-asked : (o : Option Endpoint) (method query : List ℕ) → IsAsked (asked_of o method query)
asked_of-asked None method query = tt
asked_of-asked (Some e) method query =
    elim (bytes_eq method (codes "GET")) as (λ t. IsAsked (cond t (request_in e query) (Err fault.Method))) [
      | true ↦ request_in-asked e query
      | false ↦ tt
    ]

-- what a method and a target ask
pub asked_by-asked : (method target : List ℕ) → IsAsked (asked_by method target)
unfolding asked_by
asked_by-asked method target = asked_of-asked (endpoint_of (path_of target)) method (query_of target)
