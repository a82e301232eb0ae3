pub mod LoadedRuns
