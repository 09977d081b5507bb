-- The terms of the theorems: a file for each file of specs/theorems, of the same name.
mod Results
mod Verdict
