mod RawBoxValues
