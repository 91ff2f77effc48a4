-- What is read of a text is none of bytes that are no text.
use Rattle.std.proofs.Common.{◌≡◌, ℕ, Bool, true, false, cond, List, [], ◌∷◌, refl}
use Rattle.std.specs.Prelude.{Some, None, IsUtf8}
use Rattle.std.specs.Char.{is_ascii}
use Rattle.std.specs.List.{list_all}
use Rattle.std.specs.Str.{bytes_eq, IsAscii}
use Rattle.std.proofs.Common.{subst, sym}
use Rattle.std.proofs.lemmas.Bool.{and_parts, ltb-true}
use Rattle.std.proofs.lemmas.Slice.Eq.{bytes_eq-Decides}
use Rattle.std.proofs.lemmas.Str.{IsUtf8-from_ascii}
use Rattle.std.proofs.lemmas.Str.Ascii.{IsAscii-nil, IsAscii-cons}
use Rattle.http_messages.specs.declared.endpoint.Endpoint.{Endpoint}
use Rattle.http_messages.specs.declared.endpoint.Endpoint.TheVariants as endpoint
use Rattle.http_messages.specs.Endpoints.{path_text, endpoint_among, all_endpoints, endpoint_of}

-- bytes that are all ASCII are a text
pub text_of_ascii : (bs : List ℕ) → list_all is_ascii bs ≡ true → IsUtf8 bs
text_of_ascii bs h = IsUtf8-from_ascii bs (by_bytes bs h)
  where
    by_bytes : (bs : List ℕ) → list_all is_ascii bs ≡ true → IsAscii bs
    by_bytes [] h = IsAscii-nil
    by_bytes (b ∷ bs) h =
        let parts = and_parts (is_ascii b) (list_all is_ascii bs) h in
        IsAscii-cons b bs (ltb-true b 128 parts.0) (by_bytes bs parts.1)

-- each path is a text
path_text-utf8 : (e : Endpoint) → IsUtf8 (path_text e)
path_text-utf8 endpoint.Page = text_of_ascii (path_text endpoint.Page) refl
path_text-utf8 endpoint.Health = text_of_ascii (path_text endpoint.Health) refl
path_text-utf8 endpoint.Status = text_of_ascii (path_text endpoint.Status) refl
path_text-utf8 endpoint.AbciInfo = text_of_ascii (path_text endpoint.AbciInfo) refl
path_text-utf8 endpoint.AbciQuery = text_of_ascii (path_text endpoint.AbciQuery) refl
path_text-utf8 endpoint.Block = text_of_ascii (path_text endpoint.Block) refl
path_text-utf8 endpoint.UnconfirmedTxs = text_of_ascii (path_text endpoint.UnconfirmedTxs) refl
path_text-utf8 endpoint.BroadcastSync = text_of_ascii (path_text endpoint.BroadcastSync) refl
path_text-utf8 endpoint.BroadcastCommit = text_of_ascii (path_text endpoint.BroadcastCommit) refl
path_text-utf8 endpoint.Metrics = text_of_ascii (path_text endpoint.Metrics) refl

-- none of these has a path that is no text
among_none : (es : List Endpoint) (path : List ℕ) → (IsUtf8 path → ⊥) → None ≡ endpoint_among es path
among_none [] path not_text = refl
among_none (e ∷ es) path not_text = by_test (bytes_eq path (path_text e)) refl (among_none es path not_text)
  where
    by_test : (t : Bool) → bytes_eq path (path_text e) ≡ t → None ≡ endpoint_among es path
        → None ≡ cond t (Some e) (endpoint_among es path)
    by_test true is later =
        let same : path ≡ path_text e = (bytes_eq-Decides path (path_text e)).0 is in
        absurd (not_text (subst IsUtf8 (sym same) (path_text-utf8 e)))
    by_test false is later = later

-- bytes that are no text are no path
pub endpoint_of-no_text : (path : List ℕ) → (IsUtf8 path → ⊥) → None ≡ endpoint_of path
unfolding endpoint_of
endpoint_of-no_text path not_text = among_none all_endpoints path not_text
