-- The kinds of messages by their bytes.
use Rattle.std.specs.Prelude.{◌≡◌, ℕ, cond, Some, None, Ok, Err, Option, Result, ◌==◌}
use Rattle.network.specs.declared.message.Kind.{Kind}
use Rattle.network.specs.declared.message.UnknownKind.{UnknownKind}
use Rattle.network.specs.declared.message.Kind.TheVariants.{Query, Ts, Store, Ack, Read, Value, Stop}

-- the byte of a kind, case by case
abbrev pub byte_of : Kind → ℕ
byte_of Query = 1
byte_of Ts = 2
byte_of Store = 3
byte_of Ack = 4
byte_of Read = 5
byte_of Value = 6
byte_of Stop = 7

-- the kind k if the byte is its byte, else what the rest says
abbrev pub if_byte : ℕ → Kind → Option Kind → Option Kind
if_byte byte k rest = cond (byte == byte_of k) (Some k) rest

-- the kind whose byte this is; none where no kind has it
abbrev pub kind_of : ℕ → Option Kind
kind_of byte =
    if_byte byte Query (if_byte byte Ts (if_byte byte Store (if_byte byte Ack (if_byte byte Read (if_byte byte Value (if_byte byte Stop None))))))

-- read: the kind whose byte it is, or the byte itself where no kind has it
abbrev pub Decoded : ℕ → Result Kind UnknownKind → Type 0
Decoded byte (Ok kind) = kind_of byte ≡ Some kind
Decoded byte (Err unknown) = (kind_of byte ≡ None) × (unknown.0 ≡ byte)
