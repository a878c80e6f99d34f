-- How much a reader holds, by its state.
use Rattle.std.proofs.Common.{ℕ, ◌+◌, ◌≤◌, List, ◌++◌, length, refl, arith}
use Rattle.cg_text.specs.Texts.{Lacks}
use Rattle.cg_value.specs.Files.{ReadLines}
use Rattle.cg_value.specs.Held.{held_of_lines}
use Rattle.cg_value.specs.Lines.{unlines}
use Rattle.cg_value.specs.declared.kind.ReadForm.{ReadForm}
use Rattle.cg_value.specs.declared.kind.WriteForm.{WriteForm}
use Rattle.cg_value.specs.declared.value.Value.{Value}
use Rattle.cg_line.specs.Reads.{IsState, Reads, held_by, is_reads, state_held}
use Rattle.cg_line.specs.ReadsLaws.{held_is}
use Rattle.cg_line.specs.SettingReads.{SettingReads, held_of, is_setting_reads}
use Rattle.cg_line.specs.OpenReads.{OpenReads, is_open_reads, open_held}
use Rattle.cg_line.specs.declared.open_reader.OpenReader.{OpenReader}
use Rattle.cg_line.specs.declared.reader.State.{State}
use Rattle.cg_line.specs.declared.reader.State.TheVariants as state
use Rattle.cg_line.specs.declared.reader.ValueReader.{ValueReader}
use Rattle.cg_line.specs.declared.setting_reader.SettingReader.{SettingReader}

open_few : (o : OpenReader) (kind : ReadForm) (taken : List ℕ) → OpenReads o kind taken → open_held o ≤ length taken
unfolding open_held
open_few o kind taken h = omega (arith, (is_open_reads o kind taken h).read.few)

open_most : (o : OpenReader) (kind : ReadForm) (lines : List (List ℕ)) (line : List ℕ) (v : Value) → OpenReads o kind (unlines lines ++ line) → Lacks 10 line → ReadLines kind v lines → open_held o ≤ held_of_lines v lines + length line
unfolding open_held
open_most o kind lines line v h plain spelled = (is_open_reads o kind (unlines lines ++ line) h).little lines line v refl plain spelled

state_few : (s : State) (kind : ReadForm) (taken : List ℕ) → IsState s kind taken → state_held s ≤ length taken
state_few (state.New alloc k) kind taken h = omega arith
state_few (state.Whole file) kind taken h = omega (arith, file.light)
state_few (state.Open reader) kind taken h = open_few reader.value kind taken h

state_most : (s : State) (kind : ReadForm) (lines : List (List ℕ)) (line : List ℕ) (v : Value) → IsState s kind (unlines lines ++ line) → Lacks 10 line → ReadLines kind v lines → state_held s ≤ held_of_lines v lines + length line
state_most (state.New alloc k) kind lines line v h plain spelled = omega arith
state_most (state.Whole file) kind lines line v h plain spelled = omega (arith, file.light)
state_most (state.Open reader) kind lines line v h plain spelled = open_most reader.value kind lines line v h plain spelled

-- A reader holds no more than its bytes, and no more than the line that is begun and what its whole lines may.
pub reads_few : (r : ValueReader) (kind : ReadForm) (taken : List ℕ) → Reads r kind taken → held_by r ≤ length taken
reads_few r kind taken h = rw (held_is r r.state refl) (state_few r.state kind taken (is_reads r kind taken h).state)

pub reads_most : (r : ValueReader) (kind : ReadForm) (lines : List (List ℕ)) (line : List ℕ) (v : Value) → Reads r kind (unlines lines ++ line) → Lacks 10 line → ReadLines kind v lines → held_by r ≤ held_of_lines v lines + length line
reads_most r kind lines line v h plain spelled = rw (held_is r r.state refl) (state_most r.state kind lines line v (is_reads r kind (unlines lines ++ line) h).state plain spelled)

pub takes_few : (r : SettingReader) (kind : WriteForm) (taken : List ℕ) → SettingReads r kind taken → held_of r ≤ length taken
unfolding held_of
takes_few r kind taken h = omega (arith, (is_setting_reads r kind taken h).few)
