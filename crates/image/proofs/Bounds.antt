-- A formed table is written as fewer than 2^23 bytes, so a place in it fits 23 bits. Assumes nothing.
use Prim.Native.Nat.{ℕ, suc, ◌+◌, ◌*◌, ◌<◌, ◌≤◌}
use native.Mathlib.Omega.{arith}
use mathlib.Core.List.{List, [], ◌∷◌, ◌++◌}
use lib.ListN.{length, length-append}
use Rattle.ground.specs.Lists.{each}
use Rattle.card.specs.Table.{Cmd, move, put, Row, Sit, Table, cmd_bytes, row_bytes, sit_bytes, bytes_of, Rising, Upward, FormedSits, Formed}

-- targets rise, so a list has at most as many commands as there are registers
cmds_long : (R low : ℕ) (l : List Cmd) → low ≤ R → Rising R low l → length (each cmd_bytes l) + 3 * low ≤ 3 * R
cmds_long R low [] h r = omega arith
cmds_long R low (move t f ∷ l) h r = let k = cmds_long R (suc t) l (omega (arith, r.1)) r.3 in omega (arith, r.0)
cmds_long R low (put t ∷ l) h r = let k = cmds_long R (suc t) l (omega (arith, r.1)) r.2 in omega (arith, r.0)

-- rows run upward, so a situation has at most 256
rows_long : (R N lo : ℕ) (l : List Row) → R ≤ 64 → lo ≤ 256 → Upward R N lo l → length (each row_bytes l) + 196 * lo ≤ 196 * 256
rows_long R N lo [] h k u = omega arith
rows_long R N lo (r ∷ l) h k u =
    let c = cmds_long R 0 r.cmds (omega arith) u.4 in
    let m = rows_long R N (suc r.hi) l h (omega (arith, u.2)) u.5 in
    let a = length-append (each cmd_bytes r.cmds) (each row_bytes l) in
    omega (arith, u.0, u.1)

sits_long : (t R N : ℕ) (l : List Sit) → R ≤ 64 → FormedSits t R N l → length (each sit_bytes l) ≤ 50186 * length l
sits_long t R N [] h f = omega arith
sits_long t R N (s ∷ l) h f =
    let r = rows_long R N 0 s.rows h (omega arith) f.0.rows in
    let m = sits_long t R N l h f.1 in
    let a = length-append (s.fields ++ each row_bytes s.rows) (each sit_bytes l) in
    let b = length-append s.fields (each row_bytes s.rows) in
    omega (arith, f.0.eight)

pub table_short : (T : Table) → Formed T → length (bytes_of T) < 8388608
unfolding bytes_of
table_short T f =
    let c = cmds_long T.registers 0 T.start (omega arith) f.start in
    let s = sits_long T.tags T.registers (length T.sits) T.sits f.registers f.sits in
    let a = length-append (each cmd_bytes T.start) (each sit_bytes T.sits) in
    omega (arith, f.registers, f.most)
