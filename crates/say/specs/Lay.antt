-- What is laid into a lent buffer. Assumes nothing.
use Rattle.std.specs.Prelude.{ℕ, zero, suc, ◌+◌, ◌&&◌, nat_le, if◌then◌else◌, List, take, length}
use Rattle.say.specs.declared.lay.Laid.{Laid}

-- the offset behind a clause of so many literals that begins at an offset: no step begins above 16,000, or is more than 1,001
abbrev pub behind : ℕ → ℕ → ℕ
behind step offset = if nat_le offset 16000 && nat_le step 1001 then offset + step else offset

-- offset k of clauses of so many literals, from 0
abbrev pub offset_at : ℕ → ℕ → ℕ
offset_at step zero = 0
offset_at step (suc k) = behind step (offset_at step k)

-- the bytes laid down at the front of a buffer
abbrev pub laid : Laid → List ℕ
laid l = take l.len l.room.now

-- of bytes, as many as a buffer has room for
abbrev pub fitting : Laid → List ℕ → List ℕ
fitting l bytes = take (length l.room.now) bytes
