-- Keys of the objects, with what stands beside them.
use Rattle.std.specs.Prelude.{ℕ, List, codes}

-- what stands before a refusal
unfoldable pub refused_key : List ℕ
refused_key = codes "{\"refused\":"

-- before the denials that there were and are
unfoldable pub changed_key : List ℕ
changed_key = codes "\"changed\":{\"denials\":["

-- before the missed windows
unfoldable pub misses_key : List ℕ
misses_key = codes ",\"misses\":["

-- before the number of a refusal
unfoldable pub code_key : List ℕ
code_key = codes "{\"code\":"

-- before its name
unfoldable pub reason_key : List ℕ
reason_key = codes ",\"reason\":\""
