-- The faults of requests: their status codes, and how results are compared except after allocation failure.
use Rattle.std.specs.Prelude.{◌≡◌, ◌⊎◌, ℕ, List, ◌++◌, codes, Result, Ok, Err}
use Rattle.http_messages.specs.declared.fault.Parameter.{Parameter}
use Rattle.http_messages.specs.declared.fault.Parameter.TheVariants as parameter
use Rattle.http_messages.specs.declared.fault.RequestFault.{RequestFault}
use Rattle.http_messages.specs.declared.fault.RequestFault.TheVariants as fault

-- the name of a parameter in a query
abbrev pub parameter_name : Parameter → List ℕ
parameter_name parameter.Tx = codes "tx"
parameter_name parameter.Data = codes "data"
parameter_name parameter.Height = codes "height"
parameter_name parameter.Replica = codes "replica"

-- the sentence of a fault
abbrev pub request_fault_text : RequestFault → List ℕ
request_fault_text fault.Malformed = codes "this is no HTTP/1.x request"
request_fault_text fault.Incomplete = codes "the request ends within its head"
request_fault_text (fault.Parameter p) = codes "the parameter " ++ parameter_name p ++ codes " is missing or wrong"
request_fault_text fault.NotFound = codes "no such path"
request_fault_text fault.Method = codes "only GET is answered here"
request_fault_text fault.TooLong = codes "the head of the request is too long"
request_fault_text fault.NoMemory = codes "out of memory"

-- the status code of the reply (RFC 9110, section 15; RFC 6585, section 5)
abbrev pub status_of : RequestFault → ℕ
status_of fault.Malformed = 400
status_of fault.Incomplete = 400
status_of (fault.Parameter p) = 400
status_of fault.NotFound = 404
status_of fault.Method = 405
status_of fault.TooLong = 431
status_of fault.NoMemory = 500

-- the second step, if the first found no fault
infixl 10 ◌>>=◌
abbrev pub ◌>>=◌ : {A B : Type 0} → Result A RequestFault → (A → Result B RequestFault) → Result B RequestFault
Ok x >>= f = f x
Err e >>= f = Err e

-- the result is the expected one, unless memory ran out
abbrev pub IsExpected : {A B : Type 0} → (A → B) → Result A RequestFault → Result B RequestFault → Type 0
IsExpected view (Ok x) expected = expected ≡ Ok (view x)
IsExpected view (Err e) expected = (e ≡ fault.NoMemory) ⊎ (expected ≡ Err e)
