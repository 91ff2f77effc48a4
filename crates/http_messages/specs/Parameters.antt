-- The parameters of a query.
use Rattle.std.specs.Prelude.{◌||◌, Bool, is_some, ℕ, ◌^◌, nat_lt, List, [], ◌∷◌, Option, Some, None, Result, Ok, Err, if◌then◌else◌}
use Rattle.std.specs.Str.{bytes_eq}
use Rattle.form_urlencoded.specs.Form.{raw_pairs, decode}
use Rattle.http_messages.specs.declared.fault.Parameter.{Parameter}
use Rattle.http_messages.specs.declared.fault.Parameter.TheVariants.{Tx, Data, Height, Replica}
use Rattle.http_messages.specs.declared.fault.RequestFault.{RequestFault}
use Rattle.http_messages.specs.declared.fault.RequestFault.TheVariants as fault
use Rattle.http_messages.specs.Faults.{parameter_name, ◌>>=◌}
use Rattle.http_messages.specs.Values.{byte_string_of, written_number_of}

-- the value of the first of these pairs that has this name
abbrev pub first_parameter : List ℕ → List (List ℕ × List ℕ) → Option (List ℕ)
first_parameter name [] = None
first_parameter name (pair ∷ pairs) = if bytes_eq pair.0 name then Some pair.1 else first_parameter name pairs

-- the value of the first pair of this name, still encoded
unfoldable pub value_of : List ℕ → List ℕ → Option (List ℕ)
value_of name query = first_parameter name (raw_pairs query)

-- the query has this parameter
abbrev pub is_given : Parameter → List ℕ → Bool
is_given p query = is_some (value_of (parameter_name p) query)

-- the query has a parameter that some path takes
abbrev pub is_any_given : List ℕ → Bool
is_any_given query = is_given Tx query || (is_given Data query || (is_given Height query || is_given Replica query))

-- the value, or the fault of the parameter
abbrev pub value_or_fault : {A : Type 0} → Parameter → Option A → Result A RequestFault
value_or_fault p (Some x) = Ok x
value_or_fault p None = Err (fault.Parameter p)

-- the bytes that an encoded value has, if it is there
abbrev pub bytes_parameter : Parameter → Option (List ℕ) → Result (List ℕ) RequestFault
bytes_parameter p (Some encoded) = value_or_fault p (byte_string_of (decode encoded))
bytes_parameter p None = Err (fault.Parameter p)

-- the bytes of a parameter that is required
unfoldable pub required_bytes : Parameter → List ℕ → Result (List ℕ) RequestFault
required_bytes p query = bytes_parameter p (value_of (parameter_name p) query)

-- the number, which must be there, or the fault of the parameter
abbrev pub number_or_fault : Parameter → Option ℕ → Result (Option ℕ) RequestFault
number_or_fault p (Some n) = Ok (Some n)
number_or_fault p None = Err (fault.Parameter p)

-- the number that an encoded value has, if it is there
abbrev pub number_parameter : Parameter → Option (List ℕ) → Result (Option ℕ) RequestFault
number_parameter p (Some encoded) = number_or_fault p (written_number_of (decode encoded))
number_parameter p None = Ok None

-- the number below 2^32 that a parameter has, if it is there
unfoldable pub optional_number : Parameter → List ℕ → Result (Option ℕ) RequestFault
optional_number p query = number_parameter p (value_of (parameter_name p) query)

-- the replica of this number: from 0 to 255
abbrev pub replica_parameter : Option ℕ → Result (Option ℕ) RequestFault
replica_parameter (Some n) = if nat_lt n (2 ^ 8) then Ok (Some n) else Err (fault.Parameter Replica)
replica_parameter None = Ok None

-- the replica that a query names, if it names one
unfoldable pub replica_in : List ℕ → Result (Option ℕ) RequestFault
replica_in query = optional_number Replica query >>= replica_parameter
