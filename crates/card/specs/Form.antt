-- What the form pass makes of a table file, item by item: the first fault with its kind and its item's offset.
-- Laws tie it to `Formed`. Assumes nothing: these are definitions.
use Rattle.std.specs.Prelude.{ℕ, zero, suc, ◌+◌, ◌-◌, List, Bool, true, false, length, get_or, ltb, leb, eqb, Result, Ok, Err}
use Rattle.std.specs.List.{list_all, range_with_len}
use Rattle.ground.specs.Pick.{pick}
use Rattle.card.specs.declared.form.Kind.{Kind}
use Rattle.card.specs.declared.form.Kind.TheVariants.{Misplaced, Short, Field, Rows, Extra}
use Rattle.card.specs.declared.form.Fault.{Fault}
use Rattle.card.specs.declared.form.Head.{Head}
use Rattle.card.specs.declared.form.Cursor.{Cursor}

-- ---- HEAD: "edition 1, tags 0..8, registers 0..64, situations 1..96"

unfoldable pub head_at : List ℕ → Result Head Kind
head_at s =
    pick (leb (length s) 0) (Err Short)
    (pick (eqb (get_or s 0 0) 0x21)
    (pick (ltb (length s) 5) (Err Short)
    (pick (eqb (get_or s 1 0) 1)
    (pick (ltb 8 (get_or s 2 0)) (Err Field)
    (pick (ltb 64 (get_or s 3 0)) (Err Field)
    (pick (ltb (get_or s 4 0) 1) (Err Field)
    (pick (ltb 96 (get_or s 4 0)) (Err Field)
    (Ok (record { tags = get_or s 2 0; regs = get_or s 3 0; sits = get_or s 4 0 }))))))
    (Err Field)))
    (Err Misplaced))

-- ---- fields

-- absent; or, where the situation has an answer and the table the tag, a register
unfoldable pub field_ok : (x t answer tags regs : ℕ) → Bool
field_ok x t answer tags regs = pick (eqb x 255) true (pick (eqb answer 255) false (pick (leb tags t) false (ltb x regs)))

-- the eight
unfoldable pub fields_ok : List ℕ → (at answer tags regs : ℕ) → Bool
fields_ok s at answer tags regs = list_all (λ t. field_ok (get_or s (at + t) 0) t answer tags regs) (range_with_len 0 8)

-- ---- which kind may come

-- every situation has begun, and the last one has its row to 255
unfoldable pub whole : (begun lo sits : ℕ) → Bool
whole begun lo sits = pick (leb sits begun) (eqb lo 256) false

-- Commands stand after a row; at the start only SETs do. A ROW stands where its situation has none to 255 yet,
-- a SITUATION where the one before has it, or first.
unfoldable pub kind_fault : (kind begun lo sits : ℕ) → Result (Unit {0}) Kind
kind_fault kind begun lo sits =
    pick (eqb kind 0x24) (pick (eqb begun 0) (Err Misplaced) (pick (eqb lo 0) (Err Misplaced) (Ok tt)))
    (pick (eqb kind 0x25) (pick (eqb lo 0) (Err Misplaced) (Ok tt))
    (pick (whole begun lo sits) (Err Extra)
    (pick (eqb kind 0x23) (pick (eqb begun 0) (Err Misplaced) (pick (eqb lo 256) (Err Rows) (Ok tt)))
    (pick (eqb kind 0x22) (pick (eqb lo 256) (Ok tt) (Err Rows))
    (Err Misplaced)))))

-- ---- the items

unfoldable pub sit_step : List ℕ → Head → Cursor → Result Cursor Kind
sit_step s h f =
    pick (ltb (length s - f.at) 10) (Err Short)
    (pick (fields_ok s (f.at + 2) (get_or s (f.at + 1) 0) h.tags h.regs)
    (Ok (record { at = f.at + 10; begun = f.begun + 1; lo = 0; low = 0 }))
    (Err Field))

unfoldable pub row_step : List ℕ → Head → Cursor → Result Cursor Kind
row_step s h f =
    pick (ltb (length s - f.at) 4) (Err Short)
    (pick (ltb (get_or s (f.at + 2) 0) (get_or s (f.at + 1) 0)) (Err Field)
    (pick (leb h.sits (get_or s (f.at + 3) 0)) (Err Field)
    (pick (eqb (get_or s (f.at + 1) 0) f.lo)
    (Ok (record { at = f.at + 4; begun = f.begun; lo = get_or s (f.at + 2) 0 + 1; low = 0 }))
    (Err Rows))))

unfoldable pub move_step : List ℕ → Head → Cursor → Result Cursor Kind
move_step s h f =
    pick (ltb (length s - f.at) 3) (Err Short)
    (pick (ltb (get_or s (f.at + 1) 0) f.low) (Err Field)
    (pick (leb h.regs (get_or s (f.at + 1) 0)) (Err Field)
    (pick (leb h.regs (get_or s (f.at + 2) 0)) (Err Field)
    (Ok (record { at = f.at + 3; begun = f.begun; lo = f.lo; low = get_or s (f.at + 1) 0 + 1 })))))

unfoldable pub set_step : List ℕ → Head → Cursor → Result Cursor Kind
set_step s h f =
    pick (ltb (length s - f.at) 2) (Err Short)
    (pick (ltb (get_or s (f.at + 1) 0) f.low) (Err Field)
    (pick (leb h.regs (get_or s (f.at + 1) 0)) (Err Field)
    (Ok (record { at = f.at + 2; begun = f.begun; lo = f.lo; low = get_or s (f.at + 1) 0 + 1 }))))

unfoldable pub body_step : List ℕ → Head → Cursor → Result Cursor Kind
body_step s h f =
    pick (eqb (get_or s f.at 0) 0x22) (sit_step s h f)
    (pick (eqb (get_or s f.at 0) 0x23) (row_step s h f)
    (pick (eqb (get_or s f.at 0) 0x24) (move_step s h f) (set_step s h f)))

abbrev pub fault_of : List ℕ → Head → Cursor → Result (Unit {0}) Kind
fault_of s h f = kind_fault (get_or s f.at 0) f.begun f.lo h.sits

-- what follows where nothing is wrong
abbrev pub if_fine : Result (Unit {0}) Kind → Result Cursor Kind → Result Cursor Kind
if_fine (Ok u) r = r
if_fine (Err kind) r = Err kind

unfoldable pub step_form : List ℕ → Head → Cursor → Result Cursor Kind
step_form s h f = if_fine (fault_of s h f) (body_step s h f)

-- ---- the whole

abbrev pub begin : Cursor
begin = record { at = 5; begun = 0; lo = 256; low = 0 }

-- the end of the file, with the place that a fault has there
unfoldable pub end_form : Head → Cursor → Result (Unit {0}) Fault
end_form h f = pick (whole f.begun f.lo h.sits) (Ok tt) (Err (record { kind = Short; at = f.at }))

-- an item takes the cursor on, or has a fault at its own place
abbrev pub onward : ℕ → Result Cursor Kind → (Cursor → Result (Unit {0}) Fault) → Result (Unit {0}) Fault
onward at (Ok f) k = k f
onward at (Err kind) k = Err (record { kind = kind; at = at })

-- the items from a cursor on; the first number bounds how many there can be
unfoldable pub form_from : ℕ → List ℕ → Head → Cursor → Result (Unit {0}) Fault
form_from zero s h f = end_form h f
form_from (suc n) s h f = pick (ltb f.at (length s)) (onward f.at (step_form s h f) (form_from n s h)) (end_form h f)

abbrev pub after_head : Result Head Kind → (Head → Result (Unit {0}) Fault) → Result (Unit {0}) Fault
after_head (Ok h) k = k h
after_head (Err kind) k = Err (record { kind = kind; at = 0 })

unfoldable pub form_of : List ℕ → Result (Unit {0}) Fault
form_of s = after_head (head_at s) (λ (h : Head). form_from (length s) s h begin)
